-- The units by which the policy serves a page, forces a frame and fills what is due give no reason.
use Rattle.std.proofs.Common.{◌≡◌, ℕ, ◌/◌, ◌<◌, ◌≤◌, nat_lt, true, false, List, [], ◌∷◌, length, Option, Some, None, refl, sym, ap, ◌∙◌, subst, arith}
use Rattle.std.proofs.lemmas.Bool.Decides.{nat_tests}
use Rattle.vm_facts.specs.declared.page.Page.{Page}
use Rattle.vm_facts.specs.declared.page.PageState.{PageState}
use Rattle.vm_facts.specs.declared.page.PageState.TheVariants.{Unfilled, Valid, Invalid, Coming, Going, OnSwap}
use Rattle.vm_facts.specs.declared.entry.Entry.{Entry}
use Rattle.vm_facts.specs.declared.entry.Entry.TheVariants as entries
use Rattle.flat_state.specs.PageNames.{same_page}
use Rattle.flat_state.proofs.PageNames.{same_page_self}
use Rattle.page_model.specs.Pages.{Zeros, is_valid}
use Rattle.page_model.specs.Placement.{Placement, Transfer, Due, Start, CopyOf, state_of, filling_of, IsThere, due_of_page}
use Rattle.page_model.specs.Runs.{Run}
use Rattle.page_model.specs.Hands.{hand_run, wants_moves}
use Rattle.page_model.specs.Serve.{force_entry, is_full, entry_of_serving, serve_entry}
use Rattle.page_model.specs.Conditions.{IsShared}
use Rattle.page_model.specs.Dues.{DueStand, IsDue}
use Rattle.page_model.specs.Ownership.{OwnsFrames}
use Rattle.page_laws.proofs.Moves.Cases.{serving_cases}
use Rattle.page_laws.proofs.Ends.Serving.{flying_in, full_some}
use Rattle.run_model.specs.Next.{fill_by, fill_unit}
use Rattle.run_laws.proofs.Allowed.{transfers_some, first_due}
use Rattle.paged_model.specs.declared.reason.Reason.TheVariants as reasons
use Rattle.paged_model.specs.Reasons.{unless, or_reason}
use Rattle.paged_model.specs.Moves.{has_zeros, no_frame, zero_due, zero_by, zero_reason, parent_by, copy_due, copy_reason, get_reason, reclaim_by, reclaim_reason, write_room, hand_reason, done_reason}
use Rattle.paged_model.proofs.Reasoned.{none_or, none_unless}
use Rattle.paged_laws.proofs.ReadRuns.{there_none, shared_none, room_none, read_none}
use Rattle.vm_facts.specs.Swap.{most_in_flight}
use Rattle.std.specs.Prelude.{nat_le}

-- no reason is given against a unit of paging, by the placement, while the hands pass over these pages
abbrev pub NoReason : Placement → List Page → Entry → Type 0
NoReason p locked (entries.Zero q) = zero_reason p q ≡ None
NoReason p locked (entries.Copy q) = copy_reason p q ≡ None
NoReason p locked (entries.Get q lo n) = get_reason p q lo n ≡ None
NoReason p locked (entries.Reclaim q) = reclaim_reason p q ≡ None
NoReason p locked (entries.Hands n) = hand_reason p locked ≡ None
NoReason p locked entries.Done = done_reason p.transfers ≡ None
NoReason p locked _ = ⊥

-- Frames and transfers.

free_none : (fs : List ℕ) (f : ℕ) (rest : List ℕ) → fs ≡ f ∷ rest → no_frame fs ≡ None
free_none fs f rest e = ap no_frame e

pub done_none : (ts : List Transfer) → 0 < length ts → done_reason ts ≡ None
done_none [] l = absurd (omega (arith, l))
done_none (t ∷ ts) l = refl

write_none : (p : Placement) (o : Option (Page × Run)) → is_full p ≡ false → write_room p o ≡ None
write_none p None e = refl
write_none p (Some w) e = room_none p e

none_full : (p : Placement) → p.transfers ≡ [] → is_full p ≡ false
none_full p e = ap (λ (ts : List Transfer). nat_le most_in_flight (length ts)) e

wants_none_free : (p : Placement) → p.free ≡ [] → 64 ≤ length p.holds → wants_moves p ≡ true
wants_none_free p e l =
    ap (λ (fs : List ℕ). nat_lt (length fs) (length p.holds / 4)) e
    ∙ (let q : 0 < length p.holds / 4 = omega (arith, l) in let t : nat_lt 0 (length p.holds / 4) ≡ true = grind (arith, nat_tests) in t)

-- a move of the hands that is wanted, and begins no write for which there is no room
pub hand_none : (p : Placement) (locked : List Page) → wants_moves p ≡ true → write_room p (hand_run p locked) ≡ None → hand_reason p locked ≡ None
hand_none p locked w r =
    none_or (unless (wants_moves p) reasons.EnoughFree) (write_room p (hand_run p locked)) (none_unless (wants_moves p) reasons.EnoughFree w) r

pub force_none : (p : Placement) (locked : List Page) → p.free ≡ [] → 64 ≤ length p.holds → NoReason p locked (force_entry p.transfers)
force_none p locked e l = go p.transfers refl
  where
    go : (ts : List Transfer) → p.transfers ≡ ts → NoReason p locked (force_entry ts)
    go [] i = hand_none p locked (wants_none_free p e l) (write_none p (hand_run p locked) (none_full p i))
    go (t ∷ ts) i = ap done_reason i

-- Serving.

zero_none : (p : Placement) (q : Page) (f : ℕ) (fs : List ℕ) → IsThere p q → state_of p q ≡ Unfilled → filling_of p q ≡ Zeros
    → zero_due p.due q ≡ None → p.free ≡ f ∷ fs → zero_reason p q ≡ None
zero_none p q f fs there e x d i =
    there_none p q (zero_by p q (state_of p q)) there
    (ap (zero_by p q) e
    ∙ none_or (unless (has_zeros (filling_of p q)) (reasons.FromFile q)) (or_reason (zero_due p.due q) (no_frame p.free))
    (none_unless (has_zeros (filling_of p q)) (reasons.FromFile q) (ap has_zeros x))
    (none_or (zero_due p.due q) (no_frame p.free) d (free_none p.free f fs i)))

reclaim_none : (p : Placement) (q : Page) (f : ℕ) → IsThere p q → IsShared p q → state_of p q ≡ Invalid f → reclaim_reason p q ≡ None
reclaim_none p q f there shared e = there_none p q (reclaim_by p q (state_of p q)) there (ap (reclaim_by p q) e ∙ shared_none p q shared)

-- each unit of serving a page that isn't valid
pub serve_none : (p : Placement) (locked : List Page) (q : Page) → OwnsFrames p → IsThere p q → IsShared p q → 64 ≤ length p.holds
    → (state_of p q ≡ Unfilled → zero_due p.due q ≡ None) → is_valid (state_of p q) ≡ false → NoReason p locked (serve_entry p q)
serve_none p locked q o there shared l d v =
    serving_cases (λ x. NoReason p locked (entry_of_serving x)) p q
    (λ f e. let x : true ≡ false = sym (ap is_valid e) ∙ v in absurd cc)
    (λ f e. reclaim_none p q f there shared e)
    (λ f e. done_none p.transfers (transfers_some p (flying_in p q f o e)))
    (λ n e. force_none p locked e l)
    (λ f fs i e x. zero_none p q f fs there e x (d e) i)
    (λ f fs i r full. done_none p.transfers (full_some p full))
    (λ f fs i r full. read_none p q there shared r (subst (λ (free : List ℕ). 0 < length free) (sym i) (omega arith)) full)

-- What is due.

pub start_none : (p : Placement) (locked : List Page) (q : Page) (ds : List Due) → p.due ≡ Start q ∷ ds → DueStand p → 64 ≤ length p.holds
    → NoReason p locked (fill_unit p (entries.Zero q))
start_none p locked q ds e s l = go p.free refl
  where
    was : IsDue p q (Start q)
    was = s q (Start q) (ap (λ (x : List Due). due_of_page x q) e ∙ first_due (Start q) ds)

    go : (free : List ℕ) → p.free ≡ free → NoReason p locked (fill_by p (entries.Zero q) free)
    go [] i = force_none p locked i l
    go (f ∷ fs) i =
        let w : IsDue p q (Start q) = was in
        zero_none p q f fs w.there w.unfilled w.zeros
        (ap (λ (x : List Due). zero_due x q) e ∙ none_unless (same_page q q) (reasons.DueFirst q) (same_page_self q)) i

valid_frame : (p : Placement) (parent : Page) → is_valid (state_of p parent) ≡ true → (f : ℕ) × (state_of p parent ≡ Valid f)
valid_frame p parent v = go (state_of p parent) refl v
  where
    go : (s : PageState) → state_of p parent ≡ s → is_valid s ≡ true → (f : ℕ) × (state_of p parent ≡ Valid f)
    go (Valid f) e x = (f, e)
    go Unfilled e x = absurd cc
    go (Invalid f) e x = absurd cc
    go (Coming f) e x = absurd cc
    go (Going f) e x = absurd cc
    go OnSwap e x = absurd cc

pub copy_none : (p : Placement) (locked : List Page) (q parent : Page) (ds : List Due) → p.due ≡ CopyOf q parent ∷ ds → DueStand p
    → is_valid (state_of p parent) ≡ true → 64 ≤ length p.holds → NoReason p locked (fill_unit p (entries.Copy q))
copy_none p locked q parent ds e s v l = go p.free refl
  where
    was : IsDue p q (CopyOf q parent)
    was = s q (CopyOf q parent) (ap (λ (x : List Due). due_of_page x q) e ∙ first_due (CopyOf q parent) ds)

    go : (free : List ℕ) → p.free ≡ free → NoReason p locked (fill_by p (entries.Copy q) free)
    go [] i = force_none p locked i l
    go (f ∷ fs) i =
        let w : IsDue p q (CopyOf q parent) = was in
        let x = valid_frame p parent v in
        there_none p q (copy_due p q p.due) w.there
        (ap (copy_due p q) e
        ∙ none_or (unless (same_page q q) (reasons.DueFirst q)) (parent_by p parent (state_of p parent))
        (none_unless (same_page q q) (reasons.DueFirst q) (same_page_self q)) (ap (parent_by p parent) x.1 ∙ free_none p.free f fs i))
