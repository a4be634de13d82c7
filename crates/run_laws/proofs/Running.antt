-- What stands of a run stands after each unit of it.
use Rattle.std.proofs.Common.{◌≡◌, inl, inr, ℕ, ◌&&◌, Bool, true, false, List, [], ◌∷◌, length, Some, None, refl, sym, ap, ◌∙◌, subst}
use Rattle.flat_state.specs.Space.{Space}
use Rattle.flat_state.specs.Flat.{Holds, Process, FlatState, Inputs, process_of}
use Rattle.vm_facts.specs.declared.page.Page.{Page}
use Rattle.vm_facts.specs.declared.entry.Entry.{Entry}
use Rattle.vm_facts.specs.declared.entry.Entry.TheVariants as entries
use Rattle.flat_state.specs.Change.{apply_change, apply_writes, NamesChild}
use Rattle.page_model.specs.Placement.{Placement, Start, CopyOf}
use Rattle.page_model.specs.Place.{space_of_process}
use Rattle.page_model.specs.Serve.{serve_entry}
use Rattle.page_model.specs.Swapper.{is_out}
use Rattle.kernel_model.specs.Start.{ImagesFit}
use Rattle.flat_state.specs.Numbers.{IsNumbered}
use Rattle.flat_state.specs.Lenders.{LendsStand}
use Rattle.kernel_model.specs.Stands.{holds_some}
use Rattle.kernel_laws.proofs.Machine.Swaps.{found_at}
use Rattle.kernel_laws.proofs.Flat.Numbers.{writes_numbered}
use Rattle.kernel_laws.proofs.Flat.Lenders.{changes_lent, writes_lent}
use Rattle.page_laws.proofs.Moves.Units.{unit_is}
use Rattle.flat_laws.specs.Whole.{AllSized}
use Rattle.flat_laws.proofs.Sized.{step_sized}
use Rattle.flat_laws.proofs.FewInRuns.{images_whole}
use Rattle.flat_laws.proofs.Numbers.{step_numbered}
use Rattle.flat_model.specs.Step.{Step}
use Rattle.flat_model.specs.Run.{Point, is_refused, step_at, process_of_entry}
use Rattle.run_model.specs.State.{State}
use Rattle.run_model.specs.Wanted.{locked}
use Rattle.run_model.specs.After.{after}
use Rattle.run_model.specs.Next.{fill_unit, move_unit, begins_write, next_mark, next_unit}
use Rattle.run_model.specs.Kinds.{ProcessRuns, Kind, Fills, Brings, Copies, ServesWanted, Acts, ProcessComes, Interrupts, HandsMove, ProcessGoes, Notes, Begins}
use Rattle.run_model.specs.Lawful.{Follows}
use Rattle.run_model.proofs.NextUnits.{kind_of}
use Rattle.run_laws.specs.Standing.{Placed, TextsHeld, MarkStands}
use Rattle.run_laws.specs.Running.{IsRun}
use Rattle.run_laws.proofs.Plain.{IsPaging, serve_paging, zero_paging, copy_paging}
use Rattle.run_laws.proofs.Flows.{Acted, Settles, Refuses, Steps, acted, steps_shape, steps_own, out_of, out_after, refused_after, noted, plain_point, flows_on, on_steps}
use Rattle.run_laws.proofs.Settling.{IsMark, begins_is}
use Rattle.run_laws.proofs.Units.{kind_good, good_stands, owns}
use Rattle.flat_laws.proofs.Forms.{Formed}
use Rattle.run_laws.proofs.Stepping.{Wrote, wrote, wrote_process}
use Rattle.run_laws.proofs.Acts.{Stepper, stepper, Stepped, ExecsFit, stepped_flat, stepped_form, stepped_placed}
use Rattle.run_laws.proofs.Texts.{change_texts, write_texts}
use Rattle.run_laws.proofs.Marks.{IsFree, free_stands, NoMark, free_kept, due_free, on_free, come_free, done_free, noted_free, hands_stand, put_stands, line_stands, turn_stands}

-- The flat state after a step.

record FlatKept (A : Inputs) (flat : FlatState) : Type 0 where
  pub numbers : IsNumbered flat
  pub lenders : LendsStand flat
  pub texts : TextsHeld A.images flat
  pub sized : AllSized flat.processes

step_kept : (A : Inputs) (s : State) (u : Entry) → ImagesFit A.images → ExecsFit A → Stepped A s u → FlatKept A s.point.flat
    → FlatKept A (after A s u).point.flat
step_kept A s u images execs h k =
    let pid : ℕ = h.pid in
    let flat : FlatState = s.point.flat in
    let step : Step = step_at A s.point pid in
    let runs : ProcessRuns A s pid h.now = h.runs in
    let x : Stepper flat pid = stepper flat pid (on_steps A s s.mark pid h.now runs.on) in
    let form : Formed A.images flat x.process x.space (is_refused s.point.last pid) step = stepped_form A s u h x k.numbers in
    let number : x.process.pid ≡ pid = (found_at flat pid x.process x.here).0 in
    let flat1 : FlatState = apply_writes flat pid step.writes in
    let form_after : step.after ≡ apply_change A.images flat1 pid step.regs step.change =
    form.after ∙ ap (λ (n : ℕ). apply_change A.images (apply_writes flat n step.writes) n step.regs step.change) number in
    let may : NamesChild flat1 step.change = subst (λ (n : ℕ). NamesChild (apply_writes flat n step.writes) step.change) number form.may in
    let z : Space = Rattle.flat_state.specs.Space.puts x.space step.writes in
    let q1 : Process = record x.process { holding = Holds z } in
    let w : Wrote flat flat1 pid x.process x.space z = wrote flat pid step.writes x.process x.space x.here x.holds in
    let here : process_of flat1 pid ≡ Some q1 = subst (λ (y : FlatState). process_of y pid ≡ Some q1) (sym w.is) (wrote_process flat pid x.process z x.here) in
    let numbers1 : IsNumbered flat1 = writes_numbered flat pid step.writes x.process x.space x.here x.holds k.numbers in
    subst (FlatKept A) (sym (stepped_flat A s u h)) (record {
      numbers = step_numbered A flat pid (is_refused s.point.last pid) k.numbers;
      lenders = subst LendsStand (sym form_after)
          (changes_lent A.images flat1 pid step.regs step.change q1 z here refl may numbers1 (writes_lent flat pid step.writes x.process x.space x.here x.holds k.lenders));
      texts = subst (TextsHeld A.images) (sym form_after) (change_texts A.images flat1 pid step.regs step.change q1 z here refl (execs flat pid (is_refused s.point.last pid))
          (write_texts A.images flat pid step.writes x.process x.space x.here x.holds k.texts));
      sized = step_sized A flat pid (is_refused s.point.last pid) (images_whole A.images images) k.sized;
    })

-- Marks.

paging_no_mark : (u : Entry) → IsPaging u → NoMark u
paging_no_mark (entries.Event line) k = k
paging_no_mark (entries.Turn p) k = k
paging_no_mark _ k = tt

flat_no_mark : (u : Entry) (pid : ℕ) → process_of_entry u ≡ Some pid → NoMark u
flat_no_mark (entries.Event line) pid e = absurd cc
flat_no_mark (entries.Turn p) pid e = absurd cc
flat_no_mark _ pid e = tt

mark_on : (A : Inputs) (s : State) (u : Entry) → Rattle.page_model.specs.Ownership.OwnsFrames s.place → IsNumbered s.point.flat → MarkStands s s.mark
    → Kind A s u → MarkStands (after A s u) (after A s u).mark
mark_on A s u o n m k = go k
  where
    free : NoMark u → IsFree s.mark → MarkStands (after A s u) (after A s u).mark
    free x f = free_stands (after A s u) (after A s u).mark (free_kept A s u s.mark refl x f)

    is : (e : Entry) → u ≡ e → IsFree (after A s e).mark → MarkStands (after A s u) (after A s u).mark
    is e i f = subst (λ (x : Entry). MarkStands (after A s x) (after A s x).mark) (sym i) (free_stands (after A s e) (after A s e).mark f)

    served : (p : Placement) (q : Page) (now : Bool) → Rattle.page_model.specs.Serve.serve_unit p q now ≡ Some u → NoMark u
    served p q now e = subst NoMark (sym (unit_is p q now u e).1) (paging_no_mark (serve_entry p q) (serve_paging p q))

    acts : (pid : ℕ) → Acted A s pid u → NoMark u
    acts pid (Settles e) = subst NoMark (sym e) tt
    acts pid (Refuses e) = subst NoMark (sym e) tt
    acts pid (Steps f g e) = flat_no_mark u pid (steps_own A s.point pid u e)

    begun : (x : Entry) → s.place.due ≡ [] → IsMark x → MarkStands (after A s x) (after A s x).mark
    begun (entries.Event line) d z = line_stands A s line n d
    begun (entries.Turn p) d z = turn_stands A s p
    begun _ d z = absurd z

    go : Kind A s u → MarkStands (after A s u) (after A s u).mark
    go (Fills q due e i) = free (subst NoMark (sym i) (paging_no_mark (fill_unit s.place (entries.Zero q)) (zero_paging s.place q))) (due_free s (Start q) due e s.mark m)
    go (Brings q parent due e i) = free (served s.place parent true i) (due_free s (CopyOf q parent) due e s.mark m)
    go (Copies q parent due e j i) = free (subst NoMark (sym i) (paging_no_mark (fill_unit s.place (entries.Copy q)) (copy_paging s.place q))) (due_free s (CopyOf q parent) due e s.mark m)
    go (ServesWanted pid now q r w i) = free (served s.place q now i) (on_free A s s.mark pid now r.on)
    go (Acts pid now r w a) = free (acts pid (acted A s pid u a)) (on_free A s s.mark pid now r.on)
    go (ProcessComes pid e c i) = is (entries.SwapIn pid) i (come_free A s pid s.mark refl c)
    go (Interrupts e j i) = is entries.Done i (done_free A s j)
    go (HandsMove count e j l w i) =
        subst (λ (x : Entry). MarkStands (after A s x) (after A s x).mark) (sym i) (hands_stand A s count (begins_write s.place (locked A s) && Rattle.page_model.specs.Serve.is_full s.place) o e j)
    go (ProcessGoes pid e j i) = subst (λ (x : Entry). MarkStands (after A s x) (after A s x).mark) (sym i)
        (put_stands A s pid (space_of_process (process_of s.point.flat pid)) o e j
        (let y : (s.place.due ≡ []) × (holds_some (process_of s.point.flat pid) ≡ true) × (Rattle.page_model.specs.Swapper.is_out s.place pid ≡ false) = subst (MarkStands s) j m in y.1)
        (let y : (s.place.due ≡ []) × (holds_some (process_of s.point.flat pid) ≡ true) × (Rattle.page_model.specs.Swapper.is_out s.place pid ≡ false) = subst (MarkStands s) j m in y.2))
    go (Notes e j i) = is (Rattle.run_model.specs.Next.owners_entry s) i (noted_free A s (length s.place.free) _ _ _ j)
    go (Begins e j i) = begins_is (λ (x : Entry). MarkStands (after A s x) (after A s x).mark) A s u i (λ x z. begun x e z)

-- One unit.

-- the placement, the holdings and the flat state
record Core (A : Inputs) (s : State) : Type 0 where
  pub placed : Placed A s.point.flat s.place s.holdings
  pub flat : FlatKept A s.point.flat

core_same : (A : Inputs) (s : State) (u : Entry) → (after A s u).point.flat ≡ s.point.flat
    → Placed A (after A s u).point.flat (after A s u).place (after A s u).holdings → FlatKept A s.point.flat → Core A (after A s u)
core_same A s u e p k = record { placed = p; flat = subst (FlatKept A) (sym e) k }

core_on : (A : Inputs) (s : State) (u : Entry) → ImagesFit A.images → ExecsFit A → IsRun A s → Kind A s u → Core A (after A s u)
core_on A s u images execs r k = go k
  where
    flat : FlatKept A s.point.flat
    flat = record { numbers = r.numbers; lenders = r.lenders; texts = r.texts; sized = r.sized }

    plain : process_of_entry u ≡ None → Core A (after A s u)
    plain n = core_same A s u (ap (λ (x : Point). x.flat) (plain_point A s u n)) (good_stands A s u (kind_good A s u r.placed r.numbers r.texts r.mark k n) r.placed) flat

    noted_core : after A s u ≡ noted s u → Core A (after A s u)
    noted_core e = subst (Core A) (sym e) (record { placed = r.placed; flat = flat })

    step : (pid : ℕ) (now : Bool) → ProcessRuns A s pid now → Acted A s pid u → Core A (after A s u)
    step pid now x (Settles e) = plain (ap process_of_entry e)
    step pid now x (Refuses e) = noted_core (subst (λ (y : Entry). after A s y ≡ noted s y) (sym e) (refused_after A s pid))
    step pid now x (Steps f g e) = elim (steps_shape A s.point pid u e) [
      | inl ends ↦ (let h : Stepped A s u = record { pid = pid; now = now; runs = x; ends = ends; unrefused = f; unsettling = g; next = e } in
          record { placed = stepped_placed A s u images execs r.numbers r.lenders h r.placed; flat = step_kept A s u images execs h flat })
      | inr out ↦ noted_core (subst (λ (y : Entry). after A s y ≡ noted s y) (sym out.1) (out_after A s pid pid out.0 (out_of A s.point pid pid out.0 (e ∙ ap (λ (y : Entry). Some y) out.1))))
    ]

    go : Kind A s u → Core A (after A s u)
    go (Acts pid now x w a) = step pid now x (acted A s pid u a)
    go (Fills q due e i) = plain (ap process_of_entry i ∙ Rattle.run_laws.proofs.Plain.zero_flat s.place q)
    go (Brings q parent due e i) = plain (ap process_of_entry (unit_is s.place parent true u i).1 ∙ Rattle.run_laws.proofs.Plain.serve_flat s.place parent)
    go (Copies q parent due e j i) = plain (ap process_of_entry i ∙ Rattle.run_laws.proofs.Plain.copy_flat s.place q)
    go (ServesWanted pid now q x w i) = plain (ap process_of_entry (unit_is s.place q now u i).1 ∙ Rattle.run_laws.proofs.Plain.serve_flat s.place q)
    go (ProcessComes pid e c i) = plain (ap process_of_entry i)
    go (Interrupts e j i) = plain (ap process_of_entry i)
    go (HandsMove count e j l w i) = plain (ap process_of_entry i ∙ Rattle.run_laws.proofs.Plain.move_flat s.place (locked A s))
    go (ProcessGoes pid e j i) = plain (ap process_of_entry i ∙ Rattle.run_laws.proofs.Plain.put_flat s.place pid (space_of_process (process_of s.point.flat pid)))
    go (Notes e j i) = plain (ap process_of_entry i)
    go (Begins e j i) = plain (Rattle.run_laws.proofs.Plain.mark_flat A s u i)

pub run_on : (A : Inputs) (s : State) (u : Entry) → ImagesFit A.images → ExecsFit A → IsRun A s → next_unit A s ≡ Some u → IsRun A (after A s u)
run_on A s u images execs r h =
    let c : Core A (after A s u) = core_on A s u images execs r (kind_of A s u h) in
    let f : FlatKept A (after A s u).point.flat = c.flat in
    record {
      placed = c.placed;
      numbers = f.numbers;
      lenders = f.lenders;
      texts = f.texts;
      sized = f.sized;
      flows = flows_on A s u (owns A s r.placed) r.flows h;
      mark = mark_on A s u (owns A s r.placed) r.numbers r.mark (kind_of A s u h);
    }

-- a whole list of units
pub run_all : (A : Inputs) (us : List Entry) (s t : State) → ImagesFit A.images → ExecsFit A → IsRun A s → Follows A s us t → IsRun A t
run_all A [] s t images execs r f = subst (IsRun A) f r
run_all A (u ∷ us) s t images execs r f = run_all A us (after A s u) t images execs (run_on A s u images execs r f.0) f.1
