-- What is known of a run beside its machine, behind one entry more.
use Rattle.std.proofs.Common.{◌≡◌, ℕ, zero, suc, ◌+◌, ◌-◌, ◌<◌, ◌≤◌, nat_lt, Bool, true, false, List, [], ◌∷◌, ◌++◌, length, slice_get, Option, Some, None, refl, sym, ap, ◌∙◌, subst, arith}
use Rattle.std.proofs.lemmas.Bool.Decides.{nat_tests}
use Rattle.vm_facts.specs.SwapImages.{SwapImage}
use Rattle.vm_facts.specs.declared.entry.Entry.{Entry}
use Rattle.vm_facts.specs.declared.entry.Entry.TheVariants as entries
use Rattle.vm_facts.specs.declared.event.Event.{Event}
use Rattle.vm_facts.specs.declared.event.Event.TheVariants as events
use Rattle.flat_state.specs.Flat.{Inputs, process_of}
use Rattle.flat_state.specs.Journal.{appended, repeated, units_with, units_of}
use Rattle.flat_state.proofs.Joins.{units-append, appended_units}
use Rattle.page_laws.proofs.Moves.Units.{unit_is}
use Rattle.page_laws.proofs.Swapper.PuttingOut.{unit_case}
use Rattle.page_model.specs.Place.{space_of_process}
use Rattle.page_model.specs.Placement.{Placement}
use Rattle.page_model.specs.Swapper.{Choice, swap_choice}
use Rattle.kernel_model.specs.Kernel.{Kernel}
use Rattle.flat_model.specs.Run.{process_of_entry}
use Rattle.run_model.specs.declared.mark.Mark.{Mark}
use Rattle.run_model.specs.declared.mark.Mark.TheVariants as marks
use Rattle.run_model.specs.State.{State, runners}
use Rattle.run_model.specs.Wanted.{locked}
use Rattle.run_model.specs.After.{interrupt_mark, swap_mark, mark_of_event, mark_of_line, completed, moved_on, brought_in, put_out, audited, after}
use Rattle.run_model.specs.Next.{when, line_or_turn, turn_of, next_turned, last_turned, next_mark, next_unit}
use Rattle.run_model.specs.Kinds.{Kind, Fills, Brings, Copies, ServesWanted, Acts, ProcessComes, Interrupts, HandsMove, ProcessGoes, Notes, Begins}
use Rattle.run_model.specs.Lawful.{Follows}
use Rattle.run_model.proofs.After.{units_journal}
use Rattle.run_model.proofs.NextUnits.{kind_of}
use Rattle.run_laws.proofs.Lawful.{all_units, follows_state}
use Rattle.run_laws.proofs.Flows.{Acted, Settles, Refuses, Steps, acted, steps_own}
use Rattle.run_laws.proofs.Plain.{IsPaging, serve_paging, zero_paging, copy_paging, move_paging}
use Rattle.run_laws.proofs.Settling.{IsMark}
use Rattle.vm_core.specs.Serving.{At}
use Rattle.vm_core.specs.Runners.{runners_of}
use Rattle.vm_core.proofs.Choosing.{runners_same}
use Rattle.vm_core.specs.Schedules.{HaveFewMoves}
use Rattle.vm_core.specs.Steady.{HasFewMoves}
use Rattle.vm_core.proofs.Going.{few_at}
use Rattle.film_core.specs.Films.{IsInOrder}
use Rattle.film_core.specs.Marks.{marked_by, marked_if, mark_behind, lines_behind}
use Rattle.film_core.proofs.Longer.{same_behind}
use Rattle.run_laws.proofs.Turning.{next_begins}

-- One entry more is made by its own units.

pub one_follows : (A : Inputs) (s t : State) (us : List Entry) (e : Entry) → Follows A s us t → t.journal ≡ s.journal ++ e ∷ []
    → Follows A s (units_with e []) t
one_follows A s t us e f j =
    let behind : t.journal ≡ appended s.journal us = ap (λ (x : State). x.journal) (sym (follows_state A us s t f)) ∙ units_journal A s us in
    let all : units_of (appended s.journal us) ≡ units_of s.journal ++ us = appended_units s.journal us (all_units A us s t f) in
    let own : units_of (s.journal ++ e ∷ []) ≡ units_of s.journal ++ units_with e [] = units-append s.journal (e ∷ []) in
    let same : us ≡ units_with e [] = same_behind (units_of s.journal) us (units_with e []) (sym all ∙ ap units_of (sym behind ∙ j) ∙ own) in
    subst (λ (vs : List Entry). Follows A s vs t) same f

-- No more lines are taken than there are.

unit_lines : (A : Inputs) (s : State) (u : Entry) → next_unit A s ≡ Some u → s.lines ≤ length A.lines → (after A s u).lines ≤ length A.lines
unfolding after
unit_lines A s (entries.Event line) n l = let less = (next_begins A s (entries.Event line) tt n).1 in omega (arith, less)
unit_lines A s (entries.Turn a) n l = l
unit_lines A s (entries.Ran a b) n l = l
unit_lines A s (entries.Out a b) n l = l
unit_lines A s (entries.Grew a b) n l = l
unit_lines A s (entries.Call a b c d e) n l = l
unit_lines A s (entries.Refused a) n l = l
unit_lines A s (entries.Sleeps a) n l = l
unit_lines A s (entries.Ended a b) n l = l
unit_lines A s (entries.Zero a) n l = l
unit_lines A s (entries.Get a b c) n l = l
unit_lines A s (entries.Copy a) n l = l
unit_lines A s (entries.Reclaim a) n l = l
unit_lines A s (entries.Hands a) n l = l
unit_lines A s (entries.Put a b) n l = l
unit_lines A s entries.Done n l = l
unit_lines A s (entries.SwapOut a) n l = l
unit_lines A s (entries.SwapIn a) n l = l
unit_lines A s (entries.Owners a b c d) n l = l

pub few_lines : (A : Inputs) (us : List Entry) (s t : State) → Follows A s us t → s.lines ≤ length A.lines → t.lines ≤ length A.lines
few_lines A [] s t f l = let same = ap (λ (x : State). x.lines) f in omega (arith, same, l)
few_lines A (u ∷ us) s t f l = few_lines A us (after A s u) t f.1 (unit_lines A s u f.0 l)

-- The mark of a line, by the machine.

pub marked_at : (A : Inputs) (t : State) (k : Kernel) (image : SwapImage) (e : Event) → At A t k image → mark_of_event t e ≡ marked_by k t.count e
marked_at A t k image (events.Dispatch pid n) at = refl
marked_at A t k image events.Interrupt at = ap (λ (p : Placement). interrupt_mark p.transfers) (sym at.stands.place)
marked_at A t k image (events.Hands n) at = refl
marked_at A t k image events.Swapper at =
    ap (λ (p : Placement). swap_mark (swap_choice p (runners t.point.flat))) (sym at.stands.place)
    ∙ ap (λ rs. swap_mark (swap_choice k.place rs)) (sym (runners_same k t.point.flat at.stands.keeps.coupled.tables))
marked_at A t k image events.Audit at = refl

line_at : (A : Inputs) (s : State) (line : ℕ) (k : Kernel) (image : SwapImage) (o : Option Event) → At A (after A s (entries.Event line)) k image
    → mark_of_line s o ≡ marked_if k s.count o
unfolding after
line_at A s line k image None at = refl
line_at A s line k image (Some e) at = still e ∙ marked_at A (after A s (entries.Event line)) k image e at
  where
    still : (e : Event) → mark_of_event s e ≡ mark_of_event (after A s (entries.Event line)) e
    still (events.Dispatch pid n) = refl
    still events.Interrupt = refl
    still (events.Hands n) = refl
    still events.Swapper = refl
    still events.Audit = refl

-- Instructions and moves of the hands that are joined.

moved_none : (m : Mark) → m ≡ moved_on 0 m
moved_none (marks.Hands c) = ap (λ (n : ℕ). marks.Hands n) (let e : c ≡ c - 0 = omega arith in e)
moved_none _ = refl

moved_both : (m : Mark) (n : ℕ) → moved_on n (moved_on 1 m) ≡ moved_on (suc n) m
moved_both (marks.Hands c) n = ap (λ (x : ℕ). marks.Hands x) (let e : c - 1 - n ≡ c - suc n = omega arith in e)
moved_both _ n = refl

ran_still : (A : Inputs) (p n : ℕ) (s t : State) → Follows A s (repeated (entries.Ran p 1) n []) t → (t.mark ≡ s.mark) × (t.lines ≡ s.lines)
unfolding after
ran_still A p zero s t f = (sym (ap (λ (x : State). x.mark) f), sym (ap (λ (x : State). x.lines) f))
ran_still A p (suc n) s t f = ran_still A p n (after A s (entries.Ran p 1)) t f.1

hands_still : (A : Inputs) (n : ℕ) (s t : State) → Follows A s (repeated (entries.Hands 1) n []) t → (t.mark ≡ moved_on n s.mark) × (t.lines ≡ s.lines)
unfolding after
hands_still A zero s t f = (sym (ap (λ (x : State). x.mark) f) ∙ moved_none s.mark, sym (ap (λ (x : State). x.lines) f))
hands_still A (suc n) s t f =
    let more : (t.mark ≡ moved_on n (moved_on 1 s.mark)) × (t.lines ≡ s.lines) = hands_still A n (after A s (entries.Hands 1)) t f.1 in
    (more.0 ∙ moved_both s.mark n, more.1)

-- Behind an entry.

module _ (A : Inputs) (s t : State) (k : Kernel) (image : SwapImage) (at : At A t k image) where
  same_mark : (u : Entry) → after A s u ≡ t → t.mark ≡ (after A s u).mark
  same_mark u f = sym (ap (λ (x : State). x.mark) f)

  same_lines : (u : Entry) → after A s u ≡ t → t.lines ≡ (after A s u).lines
  same_lines u f = sym (ap (λ (x : State). x.lines) f)

  pub mark_follows : (e : Entry) → Follows A s (units_with e []) t → t.mark ≡ mark_behind k t.count (slice_get A.lines s.lines) s.mark e
  unfolding after
  mark_follows (entries.Event line) f =
      same_mark (entries.Event line) f.1
      ∙ line_at A s line k image (slice_get A.lines s.lines) (subst (λ (x : State). At A x k image) (sym f.1) at)
      ∙ ap (λ (n : ℕ). marked_if k n (slice_get A.lines s.lines)) (ap (λ (x : State). x.count) f.1)
  mark_follows (entries.Turn pid) f = same_mark (entries.Turn pid) f.1 ∙ ap (λ (n : ℕ). marks.Turn pid n) (ap (λ (x : State). x.count) f.1)
  mark_follows (entries.Ran p n) f = (ran_still A p n s t f).0
  mark_follows (entries.Hands n) f = (hands_still A n s t f).0
  mark_follows (entries.Out p bytes) f = same_mark (entries.Out p bytes) f.1
  mark_follows (entries.Grew p pages) f = same_mark (entries.Grew p pages) f.1
  mark_follows (entries.Call p n c r0 r1) f = same_mark (entries.Call p n c r0 r1) f.1
  mark_follows (entries.Refused p) f = same_mark (entries.Refused p) f.1
  mark_follows (entries.Sleeps p) f = same_mark (entries.Sleeps p) f.1
  mark_follows (entries.Ended p n) f = same_mark (entries.Ended p n) f.1
  mark_follows (entries.Zero q) f = same_mark (entries.Zero q) f.1
  mark_follows (entries.Get q lo n) f = same_mark (entries.Get q lo n) f.1
  mark_follows (entries.Copy q) f = same_mark (entries.Copy q) f.1
  mark_follows (entries.Reclaim q) f = same_mark (entries.Reclaim q) f.1
  mark_follows (entries.Put q n) f = same_mark (entries.Put q n) f.1
  mark_follows entries.Done f = same_mark entries.Done f.1
  mark_follows (entries.SwapOut p) f = same_mark (entries.SwapOut p) f.1
  mark_follows (entries.SwapIn p) f = same_mark (entries.SwapIn p) f.1
  mark_follows (entries.Owners free used moving held) f = same_mark (entries.Owners free used moving held) f.1

  pub lines_follow : (e : Entry) → Follows A s (units_with e []) t → t.lines ≡ lines_behind s.lines e
  unfolding after
  lines_follow (entries.Event line) f = same_lines (entries.Event line) f.1 ∙ sym (next_begins A s (entries.Event line) tt f.0).0
  lines_follow (entries.Turn pid) f = same_lines (entries.Turn pid) f.1
  lines_follow (entries.Ran p n) f = (ran_still A p n s t f).1
  lines_follow (entries.Hands n) f = (hands_still A n s t f).1
  lines_follow (entries.Out p bytes) f = same_lines (entries.Out p bytes) f.1
  lines_follow (entries.Grew p pages) f = same_lines (entries.Grew p pages) f.1
  lines_follow (entries.Call p n c r0 r1) f = same_lines (entries.Call p n c r0 r1) f.1
  lines_follow (entries.Refused p) f = same_lines (entries.Refused p) f.1
  lines_follow (entries.Sleeps p) f = same_lines (entries.Sleeps p) f.1
  lines_follow (entries.Ended p n) f = same_lines (entries.Ended p n) f.1
  lines_follow (entries.Zero q) f = same_lines (entries.Zero q) f.1
  lines_follow (entries.Get q lo n) f = same_lines (entries.Get q lo n) f.1
  lines_follow (entries.Copy q) f = same_lines (entries.Copy q) f.1
  lines_follow (entries.Reclaim q) f = same_lines (entries.Reclaim q) f.1
  lines_follow (entries.Put q n) f = same_lines (entries.Put q n) f.1
  lines_follow entries.Done f = same_lines entries.Done f.1
  lines_follow (entries.SwapOut p) f = same_lines (entries.SwapOut p) f.1
  lines_follow (entries.SwapIn p) f = same_lines (entries.SwapIn p) f.1
  lines_follow (entries.Owners free used moving held) f = same_lines (entries.Owners free used moving held) f.1

-- Marks stay in order.

pub asked_order : (k : Kernel) (lines : List Event) (taken count : ℕ) (e : Event) → HasFewMoves e → IsInOrder lines taken (marked_by k count e)
asked_order k lines taken count (events.Dispatch pid n) few = tt
asked_order k lines taken count events.Interrupt few = by k.place.transfers
  where
    by : (ts : List _) → IsInOrder lines taken (interrupt_mark ts)
    by [] = tt
    by (x ∷ xs) = tt
asked_order k lines taken count (events.Hands n) few = few
asked_order k lines taken count events.Swapper few = by (swap_choice k.place (runners_of k))
  where
    by : (c : Choice) → IsInOrder lines taken (swap_mark c)
    by (Rattle.page_model.specs.Swapper.In pid) = tt
    by (Rattle.page_model.specs.Swapper.Out pid) = tt
    by Rattle.page_model.specs.Swapper.Nothing = tt
asked_order k lines taken count events.Audit few = tt

asked_if_order : (k : Kernel) (lines : List Event) (at taken count : ℕ) (o : Option Event) → HaveFewMoves lines → slice_get lines at ≡ o
    → IsInOrder lines taken (marked_if k count o)
asked_if_order k lines at taken count None few e = tt
asked_if_order k lines at taken count (Some x) few e = asked_order k lines taken count x (few_at lines at x few e)

moved_order : (lines : List Event) (taken n : ℕ) (m : Mark) → IsInOrder lines taken m → IsInOrder lines taken (moved_on n m)
moved_order lines taken n marks.Over h = tt
moved_order lines taken n (marks.Dispatch pid c since) h = tt
moved_order lines taken n marks.Interrupt h = tt
moved_order lines taken n (marks.Hands c) h = omega (arith, h)
moved_order lines taken n (marks.BringIn pid) h = tt
moved_order lines taken n (marks.PutOut pid) h = tt
moved_order lines taken n marks.Audit h = tt
moved_order lines taken n (marks.Turn pid since) h = h

completed_order : (lines : List Event) (taken : ℕ) (m : Mark) → IsInOrder lines taken m → IsInOrder lines taken (completed m)
completed_order lines taken marks.Interrupt h = tt
completed_order lines taken m h = h

brought_order : (lines : List Event) (taken : ℕ) (m : Mark) → IsInOrder lines taken m → IsInOrder lines taken (brought_in m)
brought_order lines taken (marks.BringIn pid) h = tt
brought_order lines taken m h = h

put_order : (lines : List Event) (taken : ℕ) (m : Mark) → IsInOrder lines taken m → IsInOrder lines taken (put_out m)
put_order lines taken (marks.PutOut pid) h = tt
put_order lines taken m h = h

audited_order : (lines : List Event) (taken : ℕ) (m : Mark) → IsInOrder lines taken m → IsInOrder lines taken (audited m)
audited_order lines taken marks.Audit h = tt
audited_order lines taken m h = h

pub order_follows : (A : Inputs) (s t : State) (k : Kernel) (count : ℕ) (e : Entry) → HaveFewMoves A.lines → IsInOrder A.lines s.lines s.mark
    → Follows A s (units_with e []) t
    → IsInOrder A.lines (lines_behind s.lines e) (mark_behind k count (slice_get A.lines s.lines) s.mark e)
order_follows A s t k count (entries.Event line) few h f = asked_if_order k A.lines s.lines line count (slice_get A.lines s.lines) few refl
order_follows A s t k count (entries.Turn pid) few h f = (next_begins A s (entries.Turn pid) tt f.0).0
order_follows A s t k count (entries.Hands n) few h f = moved_order A.lines s.lines n s.mark h
order_follows A s t k count entries.Done few h f = completed_order A.lines s.lines s.mark h
order_follows A s t k count (entries.SwapIn pid) few h f = brought_order A.lines s.lines s.mark h
order_follows A s t k count (entries.SwapOut pid) few h f = put_order A.lines s.lines s.mark h
order_follows A s t k count (entries.Owners free used moving held) few h f = audited_order A.lines s.lines s.mark h
order_follows A s t k count e few h f = h
