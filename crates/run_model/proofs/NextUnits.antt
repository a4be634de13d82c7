-- The next unit is one of these.
use Rattle.std.proofs.Common.{◌≡◌, ℕ, ◌+◌, Bool, true, false, not, ◌&&◌, nat_lt, List, [], ◌∷◌, Option, Some, None, refl, sym, ◌∙◌, subst}
use Rattle.std.proofs.lemmas.Bool.{not-true, and_parts, ltb-true}
use Rattle.vm_facts.specs.declared.page.Page.{Page}
use Rattle.vm_facts.specs.declared.entry.Entry.{Entry}
use Rattle.vm_facts.specs.declared.entry.Entry.TheVariants as entries
use Rattle.flat_state.specs.Flat.{Inputs, process_of}
use Rattle.kernel_model.specs.Placement.{Due, Start, CopyOf}
use Rattle.kernel_model.specs.Place.{space_of_process}
use Rattle.kernel_model.specs.Hands.{wants_moves}
use Rattle.kernel_model.specs.Serve.{serve_unit}
use Rattle.kernel_model.specs.Swapper.{is_out, put_out_unit}
use Rattle.run_model.specs.declared.mark.Mark.{Mark}
use Rattle.run_model.specs.declared.mark.Mark.TheVariants as marks
use Rattle.run_model.specs.State.{State}
use Rattle.run_model.specs.Wanted.{wanted, locked}
use Rattle.run_model.specs.Next.{when, or_else, fill_unit, copy_unit_by, due_unit, goes_on, work_by, work, turn_by, turn_unit, turn_instructions, move_unit, owners_entry, under, next_mark, next_unit}
use Rattle.run_model.specs.Kinds.{GoesOn, ProcessRuns, Comes, Kind, Fills, Brings, Copies, ServesWanted, Acts, ProcessComes, Interrupts, HandsMove, ProcessGoes, Notes, Begins}

some_entry : (x y : Entry) → Some x ≡ Some y → y ≡ x
some_entry x y e = cc

works : (A : Inputs) (s : State) (u : Entry) (pid : ℕ) (now : Bool) → ProcessRuns A s pid now → (o : Option Page) → wanted A s ≡ o
    → work_by A s pid now o ≡ Some u → Kind A s u
works A s u pid now r None e h = Acts pid now r e h
works A s u pid now r (Some q) e h = ServesWanted pid now q r e h

-- what is still to come of a mark
of_mark : (A : Inputs) (s : State) (u : Entry) → s.place.due ≡ [] → (m : Mark) → s.mark ≡ m → under A s m ≡ Some u → Kind A s u
of_mark A s u clear marks.Over e h = absurd cc
of_mark A s u clear (marks.Dispatch pid count since) e h = go (goes_on A s pid (since + count) && not (is_out s.place pid)) refl h
  where
    go : (b : Bool) → (goes_on A s pid (since + count) && not (is_out s.place pid)) ≡ b → when b (work A s pid false) ≡ Some u → Kind A s u
    go true k h =
        let b = and_parts (goes_on A s pid (since + count)) (not (is_out s.place pid)) k in
        let r : ProcessRuns A s pid false = record { clear = clear; on = subst (λ (x : Mark). GoesOn A s x pid false) (sym e) (refl, b.0); resident = not-true (is_out s.place pid) b.1 } in
        works A s u pid false r (wanted A s) refl h
    go false k h = absurd cc
of_mark A s u clear marks.Interrupt e h = Interrupts clear e (some_entry entries.Done u h)
of_mark A s u clear (marks.Hands count) e h = go (nat_lt 0 count && wants_moves s.place) refl h
  where
    go : (b : Bool) → (nat_lt 0 count && wants_moves s.place) ≡ b → when b (Some (move_unit s.place (locked A s))) ≡ Some u → Kind A s u
    go true k h =
        let b = and_parts (nat_lt 0 count) (wants_moves s.place) k in
        HandsMove count clear e (ltb-true 0 count b.0) b.1 (some_entry (move_unit s.place (locked A s)) u h)
    go false k h = absurd cc
of_mark A s u clear (marks.BringIn pid) e h = ProcessComes pid clear (subst (λ (x : Mark). Comes A s x pid) (sym e) refl) (some_entry (entries.SwapIn pid) u h)
of_mark A s u clear (marks.PutOut pid) e h = ProcessGoes pid clear e (some_entry (put_out_unit s.place pid (space_of_process (process_of s.point.flat pid))) u h)
of_mark A s u clear marks.Audit e h = Notes clear e (some_entry (owners_entry s) u h)
of_mark A s u clear (marks.Turn pid since) e h = go (goes_on A s pid (since + turn_instructions)) refl h
  where
    out : (b : Bool) → goes_on A s pid (since + turn_instructions) ≡ true → is_out s.place pid ≡ b → turn_by A s pid b ≡ Some u → Kind A s u
    out true k o h = ProcessComes pid clear (subst (λ (x : Mark). Comes A s x pid) (sym e) (refl, k, o)) (some_entry (entries.SwapIn pid) u h)
    out false k o h =
        let r : ProcessRuns A s pid true = record { clear = clear; on = subst (λ (x : Mark). GoesOn A s x pid true) (sym e) (refl, k); resident = o } in
        works A s u pid true r (wanted A s) refl h

    go : (b : Bool) → goes_on A s pid (since + turn_instructions) ≡ b → when b (turn_unit A s pid) ≡ Some u → Kind A s u
    go true k h = out (is_out s.place pid) k refl h
    go false k h = absurd cc

of_due : (A : Inputs) (s : State) (u : Entry) (ds : List Due) → s.place.due ≡ ds
    → or_else (due_unit s.place ds) (or_else (under A s s.mark) (next_mark A s)) ≡ Some u → Kind A s u
of_due A s u [] e h = go (under A s s.mark) refl h
  where
    go : (o : Option Entry) → under A s s.mark ≡ o → or_else o (next_mark A s) ≡ Some u → Kind A s u
    go None k h = Begins e k h
    go (Some x) k h = of_mark A s u e s.mark refl (k ∙ h)
of_due A s u (Start q ∷ due) e h = Fills q due e (some_entry (fill_unit s.place (entries.Zero q)) u h)
of_due A s u (CopyOf q parent ∷ due) e h = go (serve_unit s.place parent true) refl h
  where
    go : (o : Option Entry) → serve_unit s.place parent true ≡ o → Some (copy_unit_by s.place q o) ≡ Some u → Kind A s u
    go None k h = Copies q parent due e k (some_entry (fill_unit s.place (entries.Copy q)) u h)
    go (Some x) k h = Brings q parent due e (k ∙ h)

pub kind_of : (A : Inputs) (s : State) (u : Entry) → next_unit A s ≡ Some u → Kind A s u
unfolding next_unit
kind_of A s u h = of_due A s u s.place.due refl h
