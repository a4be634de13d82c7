-- A whole run: what stands, what each unit asks, and when there is none.
use Rattle.std.proofs.Common.{◌≡◌, ◌⊎◌, inl, inr, ℕ, ◌+◌, ◌<◌, ◌&&◌, Bool, true, false, nat_lt, List, Option, Some, None, refl, sym, ap, ◌∙◌, subst, arith}
use Rattle.std.proofs.lemmas.Bool.Decides.{nat_tests}
use Rattle.vm_facts.specs.declared.entry.Entry.{Entry}
use Rattle.vm_facts.specs.declared.entry.Entry.TheVariants as entries
use Rattle.swap_book.specs.Holdings.{Holdings}
use Rattle.flat_state.specs.Flat.{Inputs, can_step, is_ready}
use Rattle.page_model.specs.Placement.{Placement}
use Rattle.kernel_model.specs.Start.{ImagesFit}
use Rattle.page_laws.proofs.Moves.Units.{unit_is}
use Rattle.run_model.specs.declared.mark.Mark.{Mark}
use Rattle.run_model.specs.declared.mark.Mark.TheVariants as marks
use Rattle.flat_model.specs.Run.{process_of_entry}
use Rattle.run_model.specs.State.{State, start}
use Rattle.run_model.specs.Wanted.{running, touched_next, AllValid, wanted, locked}
use Rattle.run_model.specs.Snapshot.{touched_of}
use Rattle.run_model.specs.After.{after}
use Rattle.run_model.proofs.Wanting.{wanted_none}
use Rattle.run_model.specs.Next.{turn_instructions, next_unit}
use Rattle.run_model.specs.Kinds.{GoesOn, ProcessRuns, Kind, Fills, Brings, Copies, ServesWanted, Acts, ProcessComes, Interrupts, HandsMove, ProcessGoes, Notes, Begins}
use Rattle.run_model.specs.Lawful.{Follows, Reaches, IsLawful}
use Rattle.run_model.proofs.NextUnits.{kind_of}
use Rattle.std.proofs.lemmas.Bool.{and_parts}
use Rattle.run_laws.specs.Standing.{IsAllowed}
use Rattle.run_laws.specs.Running.{IsRun, CanRun, ReadyToStep}
use Rattle.run_laws.proofs.Flows.{Acted, Settles, Refuses, Steps, acted, steps_own, on_steps, on_running}
use Rattle.run_laws.proofs.Plain.{zero_flat, copy_flat, serve_flat, move_flat, put_flat, mark_flat}
use Rattle.run_laws.proofs.Units.{Good, kind_good}
use Rattle.run_laws.proofs.Running.{run_on, run_all}
use Rattle.run_laws.proofs.Lawful.{reaches_lawful}
use Rattle.run_laws.proofs.Beginning.{run_start}
use Rattle.run_laws.proofs.Execs.{execs_fit}

pub unit_run : (A : Inputs) (s : State) (u : Entry) → ImagesFit A.images → IsRun A s → next_unit A s ≡ Some u → IsRun A (after A s u)
unit_run A s u images r h = run_on A s u images (execs_fit A) r h

pub units_run : (A : Inputs) (us : List Entry) (s t : State) → ImagesFit A.images → IsRun A s → Follows A s us t → IsRun A t
units_run A us s t images r f = run_all A us s t images (execs_fit A) r f

pub start_run : (A : Inputs) (hs : Holdings) → CanRun A hs → IsRun A (start A hs)
start_run A hs c = run_start A hs c.images c.first c.frames c.pieces

pub reached_run : (A : Inputs) (hs : Holdings) (journal : List Entry) (s : State) → CanRun A hs → Reaches A journal s → IsRun A s
reached_run A hs journal s c r = units_run A r.units (start A r.holdings) s c.images (run_start A r.holdings c.images c.first c.frames r.found) r.follows

pub reached_lawful : (A : Inputs) (hs : Holdings) (journal : List Entry) (s : State) → CanRun A hs → Reaches A journal s → IsLawful A journal s
reached_lawful A hs journal s c r = reaches_lawful A journal s c.images (execs_fit A) (λ gs e. run_start A gs c.images c.first c.frames e) r

-- What a unit asks.

pub flat_or : (u : Entry) → (process_of_entry u ≡ None) ⊎ ((pid : ℕ) × (process_of_entry u ≡ Some pid))
flat_or u = go (process_of_entry u)
  where
    go : (o : Option ℕ) → (o ≡ None) ⊎ ((pid : ℕ) × (o ≡ Some pid))
    go None = inl refl
    go (Some pid) = inr (pid, refl)

flat_allowed : (p : Placement) (u : Entry) (pid : ℕ) → process_of_entry u ≡ Some pid → IsAllowed p u
flat_allowed p (entries.Ran q n) pid e = record { can = tt; shared = tt; begins = tt; leaves = tt; finds = tt }
flat_allowed p (entries.Out q bytes) pid e = record { can = tt; shared = tt; begins = tt; leaves = tt; finds = tt }
flat_allowed p (entries.Grew q n) pid e = record { can = tt; shared = tt; begins = tt; leaves = tt; finds = tt }
flat_allowed p (entries.Call q n c r0 r1) pid e = record { can = tt; shared = tt; begins = tt; leaves = tt; finds = tt }
flat_allowed p (entries.Refused q) pid e = record { can = tt; shared = tt; begins = tt; leaves = tt; finds = tt }
flat_allowed p (entries.Sleeps q) pid e = record { can = tt; shared = tt; begins = tt; leaves = tt; finds = tt }
flat_allowed p (entries.Ended q n) pid e = record { can = tt; shared = tt; begins = tt; leaves = tt; finds = tt }
flat_allowed p _ pid e = absurd cc

pub unit_allowed : (A : Inputs) (s : State) (u : Entry) → IsRun A s → next_unit A s ≡ Some u → IsAllowed s.place u
unit_allowed A s u r h = elim (flat_or u) [
  | inl n ↦ (let g : Good A s u = kind_good A s u r.placed r.numbers r.texts r.mark (kind_of A s u h) n in g.allowed)
  | inr f ↦ flat_allowed s.place u f.0 f.1
]

on_below : (A : Inputs) (s : State) (m : Mark) (pid : ℕ) (now : Bool) → GoesOn A s m pid now → s.count < A.limit
on_below A s (marks.Dispatch p count since) pid false g =
    let lt_is : (a b : ℕ) → nat_lt a b ≡ true → a < b = λ a b e. grind (arith, nat_tests) in
    lt_is s.count A.limit
    (and_parts (nat_lt s.count A.limit) (nat_lt s.count (since + count)) (and_parts (can_step s.point.flat pid) (nat_lt s.count A.limit && nat_lt s.count (since + count)) g.1).1).0
on_below A s (marks.Turn p since) pid true g =
    let lt_is : (a b : ℕ) → nat_lt a b ≡ true → a < b = λ a b e. grind (arith, nat_tests) in
    lt_is s.count A.limit (and_parts (nat_lt s.count A.limit) (nat_lt s.count (since + turn_instructions))
    (and_parts (can_step s.point.flat pid) (nat_lt s.count A.limit && nat_lt s.count (since + turn_instructions)) g.1).1).0
on_below A s _ pid now g = absurd g

pub unit_ready : (A : Inputs) (s : State) (u : Entry) (pid : ℕ) → next_unit A s ≡ Some u → process_of_entry u ≡ Some pid → ReadyToStep A s pid
unit_ready A s u pid h e = go (kind_of A s u h)
  where
    none : process_of_entry u ≡ None → ReadyToStep A s pid
    none n = absurd (let z : None ≡ Some pid = sym n ∙ e in cc)

    same : (p : ℕ) → Some p ≡ Some pid → p ≡ pid
    same p k = cc

    ready : (p : ℕ) (now : Bool) → ProcessRuns A s p now → wanted A s ≡ None → p ≡ pid → ReadyToStep A s pid
    ready p now r w i = subst (ReadyToStep A s) i (record {
      runs = on_running A s s.mark p now r.on;
      steps = on_steps A s s.mark p now r.on;
      resident = r.resident;
      clear = r.clear;
      pages = subst (AllValid s.place) (ap (touched_of A s.point.flat) (on_running A s s.mark p now r.on)) (wanted_none A s r.clear w);
      below = on_below A s s.mark p now r.on;
    })

    acts : (p : ℕ) (now : Bool) → ProcessRuns A s p now → wanted A s ≡ None → Acted A s p u → ReadyToStep A s pid
    acts p now r w (Settles i) = none (ap process_of_entry i)
    acts p now r w (Refuses i) = ready p now r w (same p (ap process_of_entry (sym i) ∙ e))
    acts p now r w (Steps f g i) = ready p now r w (same p (sym (steps_own A s.point p u i) ∙ e))

    go : Kind A s u → ReadyToStep A s pid
    go (Acts p now r w a) = acts p now r w (acted A s p u a)
    go (Fills q due e i) = none (ap process_of_entry i ∙ zero_flat s.place q)
    go (Brings q parent due e i) = none (ap process_of_entry (unit_is s.place parent true u i).1 ∙ serve_flat s.place parent)
    go (Copies q parent due e j i) = none (ap process_of_entry i ∙ copy_flat s.place q)
    go (ServesWanted p now q x w i) = none (ap process_of_entry (unit_is s.place q now u i).1 ∙ serve_flat s.place q)
    go (ProcessComes p e c i) = none (ap process_of_entry i)
    go (Interrupts e j i) = none (ap process_of_entry i)
    go (HandsMove count e j l w i) = none (ap process_of_entry i ∙ move_flat s.place (locked A s))
    go (ProcessGoes p e j i) = none (ap process_of_entry i ∙ put_flat s.place p (Rattle.page_model.specs.Place.space_of_process (Rattle.flat_state.specs.Flat.process_of s.point.flat p)))
    go (Notes e j i) = none (ap process_of_entry i)
    go (Begins e j i) = none (mark_flat A s u i)
