-- Why a page lost its frame.
use Rattle.std.proofs.Common.{◌≡◌, ◌≢◌, inl, inr, ℕ, List, Option, Some, None, refl, sym, ◌∙◌, subst}
use Rattle.vm_facts.specs.declared.page.Page.{Page}
use Rattle.vm_facts.specs.declared.entry.Entry.{Entry}
use Rattle.vm_facts.specs.declared.entry.Entry.TheVariants as entries
use Rattle.flat_state.specs.Flat.{Inputs}
use Rattle.flat_state.specs.declared.change.Change.{Change}
use Rattle.flat_state.specs.declared.change.Change.TheVariants.{Resize, Exec, End}
use Rattle.page_model.specs.Pages.{frame_of}
use Rattle.page_model.specs.Placement.{Placement, state_of}
use Rattle.page_model.specs.Moves.{touch_all}
use Rattle.page_model.specs.Place.{changing_in, place_entry, place_change, facts_of}
use Rattle.flat_state.specs.Change.{is_borrower}
use Rattle.page_model.specs.Conditions.{IsNew}
use Rattle.page_laws.specs.Leaving.{IsGivenUp, StaysOrTaken, IsUnwritten, StaysOrWritten}
use Rattle.page_laws.proofs.Moves.Stays.{Steady}
use Rattle.page_laws.proofs.Leaving.Changes.{change_frame, touch_all_steady}
use Rattle.page_laws.proofs.Leaving.Entries.{entry_frame}
use Rattle.page_laws.proofs.Leaving.Held.{entry_held}
use Rattle.run_laws.proofs.KernelLawsSoundAllowed.{new_number}
use Rattle.flat_model.specs.Run.{process_of_entry, step_at}
use Rattle.run_model.specs.State.{State}
use Rattle.run_model.specs.After.{place_at, after}
use Rattle.run_model.specs.Snapshot.{pages_written}
use Rattle.run_model.specs.Wanted.{locked}
use Rattle.run_model.specs.Next.{next_unit}
use Rattle.run_laws.specs.Running.{IsRun}
use Rattle.run_laws.specs.Standing.{machine_of, Placed, IsAllowed}
use Rattle.run_laws.proofs.Units.{plain_place, owns}
use Rattle.run_laws.proofs.Wholes.{unit_allowed}
use Rattle.run_laws.proofs.Writing.{touch_all_placed}
use Rattle.economy_laws.specs.Lost.{space_of_maker, IsLost, WasFree, WasCutOff, WasReplaced, HasEnded}

-- Units of no process.

plain_lost : (A : Inputs) (s : State) (u : Entry) (q : Page) (f : ℕ) → IsRun A s → next_unit A s ≡ Some u → process_of_entry u ≡ None
    → frame_of (state_of s.place q) ≡ Some f
    → frame_of (state_of (after A s u).place q) ≢ Some f → IsLost A s u q f
plain_lost A s u q f r h n e k = elim (subst (λ (p : Placement). StaysOrTaken s.place u p q f) (sym (plain_place A s u n)) stays) [
  | inl i ↦ absurd (k i)
  | inr i ↦ WasFree i.0 i.1
]
  where
    stays : StaysOrTaken s.place u (place_entry (locked A s) (place_at s u) s.place u) q f
    stays = let a : IsAllowed s.place u = unit_allowed A s u r h in entry_frame (locked A s) (place_at s u) s.place u q f (owns A s r.placed) a.can e

pub unit_written : (A : Inputs) (s : State) (u : Entry) (q : Page) (f : ℕ) → IsRun A s → next_unit A s ≡ Some u → process_of_entry u ≡ None
    → IsUnwritten s.place q f → StaysOrWritten s.place u (after A s u).place q f
unit_written A s u q f r h n w = subst (λ (p : Placement). StaysOrWritten s.place u p q f) (sym (plain_place A s u n))
    (let a : IsAllowed s.place u = unit_allowed A s u r h in entry_held (locked A s) (place_at s u) s.place u q f (owns A s r.placed) a.can w)

-- Units of a process.

-- the page's frame is another one after the change, so the change gave the page up
given : (A : Inputs) (s : State) (u : Entry) (q : Page) (f pid : ℕ) (change : Change) → process_of_entry u ≡ Some pid → (step_at A s.point pid).change ≡ change
    → IsGivenUp (space_of_maker s pid) (is_borrower s.point.flat.processes pid) change q → IsLost A s u q f
given A s u q f pid (Resize d t) e i k = WasCutOff pid d t e i k
given A s u q f pid (Exec image top) e i k = WasReplaced pid image top e i (record { own = k.0; page = k.1 })
given A s u q f pid (End status) e i k = HasEnded pid status e i (record { own = k.0; page = k.1 })
given A s u q f pid _ e i k = absurd k

-- once a process wrote its pages, the next space's number is new still
pub touched_new : (A : Inputs) (s : State) (qs : List Page) → IsRun A s → IsNew (touch_all s.place qs) s.point.flat.next_sid
touched_new A s qs r =
    let st : Placed A s.point.flat (touch_all s.place qs) s.holdings = touch_all_placed A s.point.flat qs s.place s.holdings r.placed in
    new_number (machine_of s.point.flat (touch_all s.place qs) s.holdings) st.numbered

stepped_lost : (A : Inputs) (s : State) (u : Entry) (q : Page) (f pid at : ℕ) (qs : List Page) → IsRun A s → process_of_entry u ≡ Some pid
    → frame_of (state_of s.place q) ≡ Some f
    → frame_of (state_of (place_change (changing_in (facts_of A.images) s.point.flat pid at) (touch_all s.place qs) (step_at A s.point pid).change) q)
    ≢ Some f → IsLost A s u q f
stepped_lost A s u q f pid at qs r e h k =
    let p : Placement = touch_all s.place qs in
    let t : Steady s.place p = touch_all_steady qs s.place in
    elim (change_frame (changing_in (facts_of A.images) s.point.flat pid at) p (step_at A s.point pid).change q (touched_new A s qs r)) [
      | inl i ↦ absurd (k (i ∙ t.frames q ∙ h))
      | inr i ↦ given A s u q f pid (step_at A s.point pid).change e refl i.1
    ]

flat_lost : (A : Inputs) (s : State) (u : Entry) (q : Page) (f pid : ℕ) → IsRun A s → process_of_entry u ≡ Some pid
    → frame_of (state_of s.place q) ≡ Some f → frame_of (state_of (after A s u).place q) ≢ Some f → IsLost A s u q f
unfolding after
flat_lost A s (entries.Ran p n) q f pid r e h k = stepped_lost A s (entries.Ran p n) q f p (place_at s (entries.Ran p n)) (pages_written s.point.flat p (step_at A s.point p)) r refl h k
flat_lost A s (entries.Grew p n) q f pid r e h k = stepped_lost A s (entries.Grew p n) q f p (place_at s (entries.Grew p n)) (pages_written s.point.flat p (step_at A s.point p)) r refl h k
flat_lost A s (entries.Call p n b r0 r1) q f pid r e h k =
    stepped_lost A s (entries.Call p n b r0 r1) q f p (place_at s (entries.Call p n b r0 r1)) (pages_written s.point.flat p (step_at A s.point p)) r refl h k
flat_lost A s (entries.Sleeps p) q f pid r e h k = stepped_lost A s (entries.Sleeps p) q f p (place_at s (entries.Sleeps p)) (pages_written s.point.flat p (step_at A s.point p)) r refl h k
flat_lost A s (entries.Ended p n) q f pid r e h k = stepped_lost A s (entries.Ended p n) q f p (place_at s (entries.Ended p n)) (pages_written s.point.flat p (step_at A s.point p)) r refl h k
flat_lost A s (entries.Out p bytes) q f pid r e h k = absurd (k h)
flat_lost A s (entries.Refused p) q f pid r e h k = absurd (k h)
flat_lost A s _ q f pid r e h k = absurd cc

pub unit_lost : (A : Inputs) (s : State) (u : Entry) (q : Page) (f : ℕ) → IsRun A s → next_unit A s ≡ Some u → frame_of (state_of s.place q) ≡ Some f
    → frame_of (state_of (after A s u).place q) ≢ Some f → IsLost A s u q f
unit_lost A s u q f r h e k = go (process_of_entry u) refl
  where
    go : (o : Option ℕ) → process_of_entry u ≡ o → IsLost A s u q f
    go None n = plain_lost A s u q f r h n e k
    go (Some pid) n = flat_lost A s u q f pid r n e k
