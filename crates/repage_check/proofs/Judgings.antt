-- What is told of a unit, from each state at which the machine may stand.
use Rattle.std.proofs.Common.{◌≡◌, ℕ, List, [], Option, Some, None, refl, sym, ap, ◌∙◌, subst}
use Rattle.std.proofs.lemmas.Option.{same_Some}
use Rattle.vm_facts.specs.SwapImages.{SwapImage}
use Rattle.vm_facts.specs.declared.entry.Entry.{Entry}
use Rattle.vm_facts.specs.declared.entry.Entry.TheVariants as entries
use Rattle.vm_facts.specs.declared.page.Page.{Page}
use Rattle.io_edge.specs.FileHolding.{NamedFile}
use Rattle.flat_state.specs.Flat.{FlatState, Inputs}
use Rattle.flat_state.specs.Journal.{IsUnit}
use Rattle.flat_model.specs.Run.{process_of_entry}
use Rattle.page_model.specs.Placement.{Placement}
use Rattle.kernel_model.specs.Coupled.{SameTables}
use Rattle.kernel_model.specs.Kernel.{Proc, note_step}
use Rattle.kernel_model.specs.Stands.{OutHold}
use Rattle.kernel_model.specs.UPage.{AreRegs}
use Rattle.kernel_model.specs.Unit.{proc_of}
use Rattle.machine_state.specs.Machine.{Standing}
use Rattle.run_model.specs.State.{State}
use Rattle.run_model.specs.Wanted.{locked}
use Rattle.run_laws.specs.Machine.{IsJournalEntry}
use Rattle.vm_core.specs.Made.{ground}
use Rattle.step_judge.specs.Leads.{KeepsLocked, MadeAs}
use Rattle.step_judge.proofs.Swapping.{out_made, in_made, note_made}
use Rattle.step_judge.proofs.Units.{one_made}
use Rattle.paged_model.specs.declared.reason.Reason.{Reason}
use Rattle.paged_model.specs.Reasons.{or_reason}
use Rattle.paged_model.specs.Moves.{hand_reason, done_reason}
use Rattle.paged_model.specs.Leaving.{out_reason, in_reason}
use Rattle.paged_model.specs.Steps.{begun, step_reason}
use Rattle.paged_model.specs.Runs.{unit_reason}
use Rattle.step_judge.specs.Rests.{begun_by}
use Rattle.step_judge.specs.Judged.{Judged, JudgedThrough}
use Rattle.step_judge.specs.Over.{JudgedOver}
use Rattle.step_judge.specs.Leaving.{JudgedOut, JudgedIn}
use Rattle.step_judge.specs.At.{JudgedAt}
use Rattle.step_judge.specs.Told.{StepTold, GoesOnWith}
use Rattle.repage_check.specs.declared.past.Past.{Past}
use Rattle.repage_check.specs.Past.{PastAt}
use Rattle.repage_check.specs.Units.{IsMarkNote, IsFill, IsOthers, note_reason, fill_reason, free_reason, begun_reason, IsTableOf, UnitTold}
use Rattle.repage_check.proofs.Onward.{stands_next}

-- Where a step is begun.

pub begun_is : (o : Option Entry) → begun_reason (begun_by o) ≡ begun o
begun_is (Some (entries.Refused p)) = refl
begun_is (Some (entries.Out p bytes)) = refl
begun_is None = refl
begun_is (Some (entries.Event x0)) = refl
begun_is (Some (entries.Turn x0)) = refl
begun_is (Some (entries.Ran x0 x1)) = refl
begun_is (Some (entries.Grew x0 x1)) = refl
begun_is (Some (entries.Call x0 x1 x2 x3 x4)) = refl
begun_is (Some (entries.Sleeps x0)) = refl
begun_is (Some (entries.Ended x0 x1)) = refl
begun_is (Some (entries.Zero x0)) = refl
begun_is (Some (entries.Get x0 x1 x2)) = refl
begun_is (Some (entries.Copy x0)) = refl
begun_is (Some (entries.Reclaim x0)) = refl
begun_is (Some (entries.Hands x0)) = refl
begun_is (Some (entries.Put x0 x1)) = refl
begun_is (Some entries.Done) = refl
begun_is (Some (entries.SwapOut x0)) = refl
begun_is (Some (entries.SwapIn x0)) = refl
begun_is (Some (entries.Owners x0 x1 x2 x3)) = refl

-- A unit of no process, by whether a step is begun.

by_begun : (A : Inputs) (s : State) (u : Entry) → IsOthers u → (u ≡ entries.Done → ⊥)
    → unit_reason A s u ≡ or_reason (begun s.point.last) (free_reason A s u)
unfolding unit_reason
by_begun A s (entries.Event line) k d = refl
by_begun A s (entries.Turn pid) k d = refl
by_begun A s (entries.Owners f u m h) k d = refl
by_begun A s (entries.SwapOut pid) k d = refl
by_begun A s (entries.SwapIn pid) k d = refl
by_begun A s (entries.Zero q) k d = refl
by_begun A s (entries.Get q lo n) k d = refl
by_begun A s (entries.Copy q) k d = refl
by_begun A s (entries.Reclaim q) k d = refl
by_begun A s (entries.Put q n) k d = refl
by_begun A s entries.Done k d = absurd (d refl)
by_begun A s (entries.Hands n) k d = absurd k
by_begun A s (entries.Ran p n) k d = absurd cc
by_begun A s (entries.Out p bytes) k d = absurd cc
by_begun A s (entries.Grew p n) k d = absurd cc
by_begun A s (entries.Call p n c r0 r1) k d = absurd cc
by_begun A s (entries.Refused p) k d = absurd cc
by_begun A s (entries.Sleeps p) k d = absurd cc
by_begun A s (entries.Ended p n) k d = absurd cc

done_is : (A : Inputs) (s : State) → unit_reason A s entries.Done ≡ done_reason s.place.transfers
unfolding unit_reason
done_is A s = refl

pub hands_is : (A : Inputs) (s : State) (n : ℕ) → unit_reason A s (entries.Hands n) ≡ or_reason (begun s.point.last) (hand_reason s.place (locked A s))
unfolding unit_reason
hands_is A s n = refl

step_is : (A : Inputs) (s : State) (u : Entry) (pid : ℕ) → process_of_entry u ≡ Some pid → unit_reason A s u ≡ step_reason A s pid u
unfolding unit_reason
step_is A s (entries.Ran p n) pid e = ap (λ (x : ℕ). step_reason A s x (entries.Ran p n)) (same_Some p pid e)
step_is A s (entries.Out p bytes) pid e = ap (λ (x : ℕ). step_reason A s x (entries.Out p bytes)) (same_Some p pid e)
step_is A s (entries.Grew p n) pid e = ap (λ (x : ℕ). step_reason A s x (entries.Grew p n)) (same_Some p pid e)
step_is A s (entries.Call p n c r0 r1) pid e = ap (λ (x : ℕ). step_reason A s x (entries.Call p n c r0 r1)) (same_Some p pid e)
step_is A s (entries.Refused p) pid e = ap (λ (x : ℕ). step_reason A s x (entries.Refused p)) (same_Some p pid e)
step_is A s (entries.Sleeps p) pid e = ap (λ (x : ℕ). step_reason A s x (entries.Sleeps p)) (same_Some p pid e)
step_is A s (entries.Ended p n) pid e = ap (λ (x : ℕ). step_reason A s x (entries.Ended p n)) (same_Some p pid e)
step_is A s _ pid e = absurd cc

others_unit : (u : Entry) → IsOthers u → IsUnit u
others_unit (entries.Ran p n) k = absurd cc
others_unit (entries.Hands n) k = absurd k
others_unit _ k = tt

fill_others : (u : Entry) → IsFill u → IsOthers u
fill_others (entries.Zero q) k = refl
fill_others (entries.Get q lo n) k = refl
fill_others (entries.Copy q) k = refl
fill_others (entries.Reclaim q) k = refl
fill_others (entries.Put q n) k = refl
fill_others _ k = absurd k

fill_free : (A : Inputs) (s : State) (u : Entry) → IsFill u → free_reason A s u ≡ fill_reason s.point.flat s.place u
fill_free A s (entries.Zero q) k = refl
fill_free A s (entries.Get q lo n) k = refl
fill_free A s (entries.Copy q) k = refl
fill_free A s (entries.Reclaim q) k = refl
fill_free A s (entries.Put q n) k = refl
fill_free A s _ k = absurd k

fill_locked : (A : Inputs) (s : State) (u : Entry) (old : Standing) (holds : Option (List NamedFile)) → IsFill u → KeepsLocked (ground old holds []) A s u
fill_locked A s (entries.Zero q) old holds k = tt
fill_locked A s (entries.Get q lo n) old holds k = tt
fill_locked A s (entries.Copy q) old holds k = tt
fill_locked A s (entries.Reclaim q) old holds k = tt
fill_locked A s (entries.Put q n) old holds k = tt
fill_locked A s _ old holds k = absurd k

note_free : (A : Inputs) (s : State) (u : Entry) → IsMarkNote u → free_reason A s u ≡ note_reason A s u
note_free A s (entries.Event line) k = refl
note_free A s (entries.Turn pid) k = refl
note_free A s (entries.Owners f u m h) k = refl
note_free A s _ k = absurd k

note_others : (u : Entry) → IsMarkNote u → IsOthers u
note_others (entries.Event line) k = refl
note_others (entries.Turn pid) k = refl
note_others (entries.Owners f u m h) k = refl
note_others _ k = absurd k

note_noted : (u : Entry) → IsMarkNote u → IsJournalEntry u
note_noted (entries.Event line) k = tt
note_noted (entries.Turn pid) k = tt
note_noted (entries.Owners f u m h) k = tt
note_noted _ k = absurd k

note_undone : (u : Entry) → IsMarkNote u → u ≡ entries.Done → ⊥
note_undone u k e = subst IsMarkNote e k

fill_undone : (u : Entry) → IsFill u → u ≡ entries.Done → ⊥
fill_undone u k e = subst IsFill e k

-- At a state.

module _ (p : Past) (old new : Standing) (holds : Option (List NamedFile)) (i j : Option SwapImage) (A : Inputs) (s : State) (image : SwapImage)
    (at : PastAt p old holds i A s image) where
  here : JudgedAt old p.counted p.begun holds i A s image
  here = at.judged

  tables : SameTables old.kernel s.point.flat
  tables = here.stands.keeps.coupled.tables

  is_begun : begun_reason p.begun ≡ begun s.point.last
  is_begun = sym (ap begun_reason here.begun) ∙ begun_is s.point.last

  -- the reason and what was made, of any unit
  any_told : (reason : Option Reason) (u : Entry) → IsUnit u → reason ≡ unit_reason A s u → (reason ≡ None → MadeAs A s old.kernel image u new.kernel j)
      → (reason ≡ None → GoesOnWith old new) → UnitTold reason u p old new holds j A s image
  any_told reason u unit e made on = record {
    exact = e;
    stands = λ none. stands_next p old new holds i j A s image u at unit (sym e ∙ none) (made none) (on none);
  }

  -- of one of no process, where no step is begun
  free_told : (reason : Option Reason) (u : Entry) → p.begun ≡ None → IsOthers u → (u ≡ entries.Done → ⊥) → reason ≡ free_reason A s u
      → (reason ≡ None → MadeAs A s old.kernel image u new.kernel j) → (reason ≡ None → GoesOnWith old new) → UnitTold reason u p old new holds j A s image
  free_told reason u clear others undone e made on =
      any_told reason u (others_unit u others)
      (e ∙ ap (λ (o : Option Reason). or_reason o (free_reason A s u)) (sym (ap begun_reason clear) ∙ is_begun) ∙ sym (by_begun A s u others undone)) made on

  -- while one is begun, nothing is made
  pub begun_told : (reason : Reason) (u : Entry) → begun_reason p.begun ≡ Some reason → IsOthers u → (u ≡ entries.Done → ⊥)
      → UnitTold (Some reason) u p old new holds j A s image
  begun_told reason u b others undone =
      any_told (Some reason) u (others_unit u others)
      (ap (λ (o : Option Reason). or_reason o (free_reason A s u)) (sym b ∙ is_begun) ∙ sym (by_begun A s u others undone)) (λ none. absurd cc) (λ none. absurd cc)

  pub begun_hands : (reason : Reason) → begun_reason p.begun ≡ Some reason → UnitTold (Some reason) (entries.Hands 1) p old new holds j A s image
  begun_hands reason b =
      any_told (Some reason) (entries.Hands 1) refl
      (ap (λ (o : Option Reason). or_reason o (hand_reason s.place (locked A s))) (sym b ∙ is_begun) ∙ sym (hands_is A s 1)) (λ none. absurd cc) (λ none. absurd cc)

  -- of a note
  pub note_told : (reason : Option Reason) (u : Entry) → p.begun ≡ None → IsMarkNote u → j ≡ i
      → ((B : Inputs) (t : State) → IsTableOf old.kernel p t → reason ≡ note_reason B t u)
      → (reason ≡ None → new.kernel ≡ note_step old.kernel u) → (reason ≡ None → GoesOnWith old new) → UnitTold reason u p old new holds j A s image
  note_told reason u clear note same e made on =
      free_told reason u clear (note_others u note) (note_undone u note)
      (e A s (record { owners = record { place = here.stands.place; holdings = here.stands.holdings }; tables = tables; lines = at.lines }) ∙ sym (note_free A s u note))
      (λ none. subst (λ (o : Option SwapImage). MadeAs A s old.kernel image u new.kernel o) (sym (same ∙ here.told))
      (note_made A s old.kernel new.kernel image u (note_noted u note) (made none))) on

  -- of a fill
  pub fill_told : (reason : Option Reason) (u : Entry) → p.begun ≡ None → IsFill u → j ≡ i
      → ((F : FlatState) → SameTables old.kernel F → reason ≡ fill_reason F old.kernel.place u)
      → Judged u old new reason → (reason ≡ None → GoesOnWith old new) → UnitTold reason u p old new holds j A s image
  fill_told reason u clear fill same e judged on =
      free_told reason u clear (fill_others u fill) (fill_undone u fill)
      (e s.point.flat tables ∙ ap (λ (x : Placement). fill_reason s.point.flat x u) here.stands.place ∙ sym (fill_free A s u fill))
      (λ none. let m = (subst (Judged u old new) none judged) holds (Some image) [] in
      subst (λ (o : Option SwapImage). MadeAs A s old.kernel image u new.kernel o) (sym (same ∙ here.told))
      (one_made A (ground old holds []) s old.kernel new.kernel image (Some image) u here.images (fill_locked A s u old holds fill) m.made m.told)) on

  -- of the end of a transfer
  pub end_told : (reason : Option Reason) → reason ≡ done_reason old.kernel.place.transfers → JudgedThrough entries.Done holds i j old new reason
      → (reason ≡ None → GoesOnWith old new) → UnitTold reason entries.Done p old new holds j A s image
  end_told reason e judged on =
      any_told reason entries.Done tt (e ∙ ap (λ (x : Placement). done_reason x.transfers) here.stands.place ∙ sym (done_is A s))
      (λ none. let m = (subst (JudgedThrough entries.Done holds (Some image) j old new) none
      (subst (λ (o : Option SwapImage). JudgedThrough entries.Done holds o j old new reason) here.told judged)) [] in
      one_made A (ground old holds []) s old.kernel new.kernel image j entries.Done here.images tt m.made m.told) on

  -- of a process that goes out
  pub out_told : (reason : Option Reason) (pid : ℕ) → p.begun ≡ None
      → ((F : FlatState) → SameTables old.kernel F → reason ≡ out_reason F old.kernel.place pid)
      → JudgedOut pid i j old new reason → ((q : Proc) → proc_of old.kernel pid ≡ Some q → AreRegs q.regs) → (reason ≡ None → GoesOnWith old new)
      → UnitTold reason (entries.SwapOut pid) p old new holds j A s image
  out_told reason pid clear e judged regs on =
      free_told reason (entries.SwapOut pid) clear refl (λ d. absurd cc)
      (e s.point.flat tables ∙ ap (λ (x : Placement). out_reason s.point.flat x pid) here.stands.place)
      (λ none. let w = subst (JudgedOut pid (Some image) j old new) none (subst (λ (o : Option SwapImage). JudgedOut pid o j old new reason) here.told judged) in
      out_made A s old.kernel new.kernel image j pid regs w.step w.wrote) on

  -- of one that comes in
  pub in_told : (reason : Option Reason) (pid : ℕ) → p.begun ≡ None
      → ((F : FlatState) → SameTables old.kernel F → OutHold old.kernel.place F → reason ≡ in_reason F old.kernel.place pid)
      → JudgedIn pid i j old new reason → (reason ≡ None → GoesOnWith old new) → UnitTold reason (entries.SwapIn pid) p old new holds j A s image
  in_told reason pid clear e judged on =
      free_told reason (entries.SwapIn pid) clear refl (λ d. absurd cc)
      (e s.point.flat tables here.stands.keeps.stands.out ∙ ap (λ (x : Placement). in_reason s.point.flat x pid) here.stands.place)
      (λ none. let w = subst (JudgedIn pid (Some image) j old new) none (subst (λ (o : Option SwapImage). JudgedIn pid o j old new reason) here.told judged) in
      in_made A s old.kernel new.kernel image j pid w.step w.asked) on

  -- of a move of the hands
  pub move_told : (reason : Option Reason) (pages : List Page) → p.begun ≡ None → pages ≡ locked A s → j ≡ i → reason ≡ hand_reason old.kernel.place pages
      → JudgedOver pages (entries.Hands 1) old new reason → (reason ≡ None → GoesOnWith old new) → UnitTold reason (entries.Hands 1) p old new holds j A s image
  move_told reason pages clear same_pages same e judged on =
      any_told reason (entries.Hands 1) refl
      (e ∙ ap (λ (x : Placement). hand_reason x pages) here.stands.place ∙ ap (hand_reason s.place) same_pages
      ∙ ap (λ (o : Option Reason). or_reason o (hand_reason s.place (locked A s))) (sym (ap begun_reason clear) ∙ is_begun) ∙ sym (hands_is A s 1))
      (λ none. let m = (subst (JudgedOver pages (entries.Hands 1) old new) none judged) holds (Some image) in
      subst (λ (o : Option SwapImage). MadeAs A s old.kernel image (entries.Hands 1) new.kernel o) (sym (same ∙ here.told))
      (one_made A (ground old holds pages) s old.kernel new.kernel image (Some image) (entries.Hands 1) here.images same_pages m.made m.told)) on

  -- of a process
  pub step_told : (reason : Option Reason) (u : Entry) (pid : ℕ) → IsUnit u → process_of_entry u ≡ Some pid → StepTold reason u pid old.kernel new.kernel j A s image
      → (reason ≡ None → GoesOnWith old new) → UnitTold reason u p old new holds j A s image
  step_told reason u pid unit own t on = any_told reason u unit (t.exact ∙ sym (step_is A s u pid own)) t.made on
