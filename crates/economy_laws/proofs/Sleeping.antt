-- A process that sleeps can't step.
use Rattle.std.proofs.Common.{◌≡◌, ℕ, Bool, true, false, List, Option, Some, None, if◌then◌else◌, refl, sym, ap, ◌∙◌, subst}
use Rattle.flat_state.specs.Flat.{Holding, Holds, Lends, Zombie, Process, FlatState, NamedImage, Inputs, holds_space, is_ready, ready_if, process_of, can_step}
use Rattle.vm_facts.specs.declared.regs.Regs.{Regs}
use Rattle.vm_facts.specs.declared.entry.Entry.{Entry}
use Rattle.vm_facts.specs.declared.entry.Entry.TheVariants as entries
use Rattle.flat_state.specs.declared.change.Change.TheVariants.{Sleep}
use Rattle.flat_state.specs.Change.{replaced, with_process, changed_by, changed_if, apply_change, apply_writes}
use Rattle.page_model.specs.Placement.{Placement}
use Rattle.page_model.specs.Moves.{touch_all}
use Rattle.page_model.specs.Place.{changing_in, place_change, space_of_process, facts_of}
use Rattle.page_model.specs.Swapper.{is_out}
use Rattle.run_laws.proofs.Lists.{found_is, replaced_at}
use Rattle.page_laws.proofs.Moves.Units.{unit_is}
use Rattle.run_laws.proofs.Others.{number_of_found}
use Rattle.flat_model.specs.Run.{process_of_entry, step_at}
use Rattle.run_model.specs.State.{State}
use Rattle.run_model.specs.Wanted.{locked}
use Rattle.run_model.specs.After.{place_at, after}
use Rattle.run_model.specs.Snapshot.{pages_written}
use Rattle.run_model.specs.Act.{act}
use Rattle.run_model.specs.Next.{next_unit}
use Rattle.run_model.specs.Kinds.{ProcessRuns, Kind, Fills, Brings, Copies, ServesWanted, Acts, ProcessComes, Interrupts, HandsMove, ProcessGoes, Notes, Begins}
use Rattle.run_model.proofs.NextUnits.{kind_of}
use Rattle.run_laws.proofs.Acts.{Stepper, stepper, Stepped, stepped_flat, stepped_form, Completes, completes}
use Rattle.run_laws.proofs.Flows.{Acted, Settles, Refuses, Steps, acted, steps_own, on_steps}
use Rattle.run_laws.proofs.Plain.{zero_flat, copy_flat, serve_flat, move_flat, put_flat, mark_flat}
use Rattle.run_laws.proofs.Stepping.{touched_due, touched_out}
use Rattle.economy_laws.proofs.Stretching.{Slept, SleepStops}

asleep_idle : (b : Bool) (h : Holding) → holds_space h ≡ false → (if b then false else holds_space h) ≡ false
asleep_idle true h e = refl
asleep_idle false h e = e

pub sleeps_idle : (images : List NamedImage) (G : FlatState) (pid : ℕ) (regs : Regs) → can_step (apply_change images G pid regs Sleep) pid ≡ false
unfolding apply_change
sleeps_idle images G pid regs = go (process_of G pid) refl
  where
    same_pid : (p : Process) → process_of G pid ≡ Some p → p.pid ≡ pid
    same_pid p e = number_of_found G.processes pid p e

    found : (p q : Process) → process_of G pid ≡ Some p → q.pid ≡ p.pid → is_ready q ≡ false → can_step (with_process G q) pid ≡ false
    found p q e k z =
        let n : q.pid ≡ pid = k ∙ same_pid p e in
        subst (λ (x : ℕ). can_step (with_process G q) x ≡ false) n
        (ap ready_if (found_is (replaced G.processes q) q.pid ∙ replaced_at G.processes p q (sym (found_is G.processes q.pid) ∙ ap (process_of G) n ∙ e)) ∙ z)

    held : (p : Process) → process_of G pid ≡ Some p → (h : Holding) → p.holding ≡ h → can_step (changed_by images G (record p { regs = regs }) Sleep h) pid ≡ false
    held p e (Holds s) k = found p (record p { regs = regs; asleep = true }) e refl refl
    held p e (Lends sid child) k = ap ready_if e ∙ asleep_idle p.asleep p.holding (ap holds_space k)
    held p e (Zombie status) k = ap ready_if e ∙ asleep_idle p.asleep p.holding (ap holds_space k)

    go : (o : Option Process) → process_of G pid ≡ o → can_step (changed_if images G regs Sleep o) pid ≡ false
    go None e = ap ready_if e
    go (Some p) e = held p e p.holding refl

-- a flat unit is what a process does that runs
pub record Does (A : Inputs) (s : State) (u : Entry) (pid : ℕ) : Type 0 where
  pub now : Bool
  pub runs : ProcessRuns A s pid now
  pub act : act A s pid ≡ Some u

pub does : (A : Inputs) (s : State) (u : Entry) (pid : ℕ) → next_unit A s ≡ Some u → process_of_entry u ≡ Some pid → Does A s u pid
does A s u pid h e = go (kind_of A s u h)
  where
    none : process_of_entry u ≡ None → Does A s u pid
    none n = absurd (let z : None ≡ Some pid = sym n ∙ e in cc)

    same : (p : ℕ) → Some p ≡ Some pid → p ≡ pid
    same p k = cc

    acts : (p : ℕ) (now : Bool) → ProcessRuns A s p now → act A s p ≡ Some u → Acted A s p u → Does A s u pid
    acts p now r a (Settles i) = none (ap process_of_entry i)
    acts p now r a (Refuses i) = subst (Does A s u) (same p (ap process_of_entry (sym i) ∙ e)) (record { now = now; runs = r; act = a })
    acts p now r a (Steps f g i) = subst (Does A s u) (same p (sym (steps_own A s.point p u i) ∙ e)) (record { now = now; runs = r; act = a })

    go : Kind A s u → Does A s u pid
    go (Acts p now r w a) = acts p now r a (acted A s p u a)
    go (Fills q due e i) = none (ap process_of_entry i ∙ zero_flat s.place q)
    go (Brings q parent due e i) = none (ap process_of_entry (unit_is s.place parent true u i).1 ∙ serve_flat s.place parent)
    go (Copies q parent due e j i) = none (ap process_of_entry i ∙ copy_flat s.place q)
    go (ServesWanted p now q x w i) = none (ap process_of_entry (unit_is s.place q now u i).1 ∙ serve_flat s.place q)
    go (ProcessComes p e c i) = none (ap process_of_entry i)
    go (Interrupts e j i) = none (ap process_of_entry i)
    go (HandsMove count e j l w i) = none (ap process_of_entry i ∙ move_flat s.place (locked A s))
    go (ProcessGoes p e j i) = none (ap process_of_entry i ∙ put_flat s.place p (space_of_process (process_of s.point.flat p)))
    go (Notes e j i) = none (ap process_of_entry i)
    go (Begins e j i) = none (mark_flat A s u i)

slept_place : (A : Inputs) (s : State) (pid : ℕ) → (step_at A s.point pid).change ≡ Sleep
    → (after A s (entries.Sleeps pid)).place ≡ touch_all s.place (pages_written s.point.flat pid (step_at A s.point pid))
unfolding after
slept_place A s pid e =
    ap (place_change (changing_in (facts_of A.images) s.point.flat pid (place_at s (entries.Sleeps pid))) (touch_all s.place (pages_written s.point.flat pid (step_at A s.point pid)))) e

pub sleep_stops : (A : Inputs) → SleepStops A
sleep_stops A s pid r h = by (acted A s pid (entries.Sleeps pid) d.act)
  where
    d : Does A s (entries.Sleeps pid) pid
    d = does A s (entries.Sleeps pid) pid h refl

    by : Acted A s pid (entries.Sleeps pid) → Slept A s (after A s (entries.Sleeps pid)) pid
    by (Settles i) = absurd cc
    by (Refuses i) = absurd cc
    by (Steps f g i) =
        let st : Stepped A s (entries.Sleeps pid) = record { pid = pid; now = d.now; runs = d.runs; ends = tt; unrefused = f; unsettling = g; next = i } in
        let run : ProcessRuns A s pid d.now = d.runs in
        let x : Stepper s.point.flat pid = stepper s.point.flat pid (on_steps A s s.mark pid d.now run.on) in
        let form = stepped_form A s (entries.Sleeps pid) st x r.numbers in
        let c : Completes A s.point pid (entries.Sleeps pid) = completes A s.point pid (entries.Sleeps pid) tt i in
        let e : (step_at A s.point pid).change ≡ Sleep = c.suits (step_at A s.point pid).change form.suits in
        let pl = slept_place A s pid e in
        let p : Process = x.process in
        let n : p.pid ≡ pid = number_of_found s.point.flat.processes pid x.process x.here in
        let is =
        stepped_flat A s (entries.Sleeps pid) st ∙ form.after ∙ ap (apply_change A.images (apply_writes s.point.flat p.pid (step_at A s.point pid).writes) p.pid (step_at A s.point pid).regs) e in
        record {
          idle = ap (λ (F : FlatState). can_step F pid) is
              ∙ subst (λ (y : ℕ). can_step (apply_change A.images (apply_writes s.point.flat p.pid (step_at A s.point pid).writes) p.pid (step_at A s.point pid).regs Sleep) y ≡ false) n
              (sleeps_idle A.images (apply_writes s.point.flat p.pid (step_at A s.point pid).writes) p.pid (step_at A s.point pid).regs);
          clear = ap (λ (p : Placement). p.due) pl ∙ touched_due (pages_written s.point.flat pid (step_at A s.point pid)) s.place ∙ run.clear;
          resident = λ o. ap (λ (p : Placement). is_out p pid) pl ∙ touched_out (pages_written s.point.flat pid (step_at A s.point pid)) s.place pid ∙ o;
        }
