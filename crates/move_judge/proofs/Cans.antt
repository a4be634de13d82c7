-- Where a line may come the call may be made.
use Rattle.std.proofs.Common.{◌≡◌, ℕ, ◌≤◌, cond, Bool, List, [], ◌∷◌, slice_get, option_map, Option, Some, None, sym, ap, ◌∙◌, subst, arith}
use Rattle.std.proofs.lemmas.Option.{same_Some}
use Rattle.vm_facts.specs.declared.page.Page.{Page}
use Rattle.flat_state.specs.PageNames.{number_of, same_page}
use Rattle.flat_state.proofs.PageNames.{same_page_self}
use Rattle.page_model.specs.Placement.{Placement, Due, Start, CopyOf, due_of_page, state_of}
use Rattle.page_model.specs.Dues.{DueStand, IsDue}
use Rattle.machine_state.specs.Conditions.{CanZero, CanBringIn, CanReclaim}
use Rattle.machine_state.specs.Calls.{CanCopy, due_and_parent}
use Rattle.machine_state.specs.Due.{IsFirstStart}
use Rattle.paged_model.specs.Coming.{FirstStart, ZeroComes, CopyComes, GetComes, ReclaimComes}
use Rattle.paged_model.specs.declared.reason.Reason.TheVariants as reasons
use Rattle.paged_model.specs.Reasons.{unless, or_reason}
use Rattle.paged_model.specs.Moves.{zero_reason, parent_by, copy_due, copy_reason, get_reason, reclaim_reason}
use Rattle.paged_model.proofs.Comes.{zero_comes, reclaim_comes}
use Rattle.paged_model.proofs.Brought.{get_comes}
use Rattle.paged_model.proofs.Copied.{copy_comes}
use Rattle.move_judge.specs.Judged.{CopiesFrom}

first_start : (ds : List Due) (q : Page) → FirstStart ds q → IsFirstStart ds q
first_start [] q e = tt
first_start (Start r ∷ ds) q e = e
first_start (CopyOf r parent ∷ ds) q e = absurd e

pub can_zero : (p : Placement) (q : Page) → zero_reason p q ≡ None → CanZero p q
can_zero p q e =
    let z : ZeroComes p q = zero_comes p q e in
    record { writable = z.writable; there = z.there; unfilled = z.unfilled; zeros = z.zeros; first = first_start p.due q z.first; frame = z.free }

pub can_reclaim : (p : Placement) (q : Page) → reclaim_reason p q ≡ None → CanReclaim p q
can_reclaim p q e =
    let z : ReclaimComes p q = reclaim_comes p q e in record { frame = z.frame; invalid = z.invalid; shared = z.shared }

pub can_get : (p : Placement) (q : Page) (lo n : ℕ) → DueStand p → number_of q ≤ 4096 → get_reason p q lo n ≡ None → CanBringIn p q lo n
can_get p q lo n d low e =
    let z : GetComes p q lo n = get_comes p q lo n d e in
    record {
      enter = z.enter;
      reads = z.reads;
      shared = z.shared;
      frames = z.frames;
      some = z.some;
      most = z.most;
      room = z.room;
      fits = (let a = z.low in let b = z.most in omega (arith, a, b, low));
    }

first_of : (q parent : Page) (ds : List Due) → due_of_page (CopyOf q parent ∷ ds) q ≡ Some (CopyOf q parent)
first_of q parent ds = ap (λ (b : Bool). cond b (Some (CopyOf q parent)) (due_of_page ds q)) (same_page_self q)

copy_can : (p : Placement) (q parent : Page) → DueStand p → CopyComes p q parent → CanCopy p q parent
copy_can p q parent d z =
    let was : IsDue p q (CopyOf q parent) = d q (CopyOf q parent) (ap (λ (ds : List Due). due_of_page ds q) z.first ∙ first_of q parent z.others) in
    record {
      writable = was.writable;
      there = was.there;
      unfilled = was.unfilled;
      others = z.others;
      first = z.first;
      frame = z.frame;
      valid = z.valid;
      free = z.free;
    }

no_pair : (x : Page × Option Page) → None ≡ Some x → ⊥
no_pair x e = absurd cc

no_parent : (x : Page) → None ≡ Some x → ⊥
no_parent x e = absurd cc

-- what is due first, as the machine tells it, says why a page isn't copied
pub copy_told : (p : Placement) (q r parent : Page) → Some (r, Some parent) ≡ option_map due_and_parent (slice_get p.due 0)
    → copy_due p q p.due ≡ or_reason (unless (same_page r q) (reasons.DueFirst r)) (parent_by p parent (state_of p parent))
copy_told p q r parent e = go p.due e
  where
    go : (ds : List Due) → Some (r, Some parent) ≡ option_map due_and_parent (slice_get ds 0)
        → copy_due p q ds ≡ or_reason (unless (same_page r q) (reasons.DueFirst r)) (parent_by p parent (state_of p parent))
    go [] k = absurd (no_pair (r, Some parent) (sym k))
    go (Start w ∷ ds) k =
        let pair : (r, Some parent) ≡ (w, None) = same_Some (r, Some parent) (w, None) k in
        absurd (no_parent parent (sym (ap (λ (x : Page × Option Page). x.1) pair)))
    go (CopyOf w x ∷ ds) k =
        let pair : (r, Some parent) ≡ (w, Some x) = same_Some (r, Some parent) (w, Some x) k in
        let first : r ≡ w = ap (λ (y : Page × Option Page). y.0) pair in
        let second : parent ≡ x = same_Some parent x (ap (λ (y : Page × Option Page). y.1) pair) in
        ap (λ (y : Page). or_reason (unless (same_page y q) (reasons.DueFirst y)) (parent_by p x (state_of p x))) (sym first)
        ∙ ap (λ (y : Page). or_reason (unless (same_page r q) (reasons.DueFirst r)) (parent_by p y (state_of p y))) (sym second)

-- the copy that is due first, as the machine tells it
module _ (p : Placement) (q : Page) (e : copy_reason p q ≡ None) where
  told : option_map due_and_parent (slice_get p.due 0) ≡ Some (q, Some (copy_comes p q e).0)
  told = let z : CopyComes p q (copy_comes p q e).0 = (copy_comes p q e).1 in ap (λ (ds : List Due). option_map due_and_parent (slice_get ds 0)) z.first

  pub copies_from : (r parent : Page) → Some (r, Some parent) ≡ option_map due_and_parent (slice_get p.due 0) → CopiesFrom p.due q parent
  copies_from r parent a =
      let z : CopyComes p q (copy_comes p q e).0 = (copy_comes p q e).1 in
      let pair : (r, Some parent) ≡ (q, Some (copy_comes p q e).0) = same_Some (r, Some parent) (q, Some (copy_comes p q e).0) (a ∙ told) in
      let same : parent ≡ (copy_comes p q e).0 = same_Some parent (copy_comes p q e).0 (ap (λ (x : Page × Option Page). x.1) pair) in
      record { others = z.others; first = z.first ∙ ap (λ (y : Page). CopyOf q y ∷ z.others) (sym same) }

  pub copy_is_due : None ≡ option_map due_and_parent (slice_get p.due 0) → ⊥
  copy_is_due a = no_pair (q, Some (copy_comes p q e).0) (a ∙ told)

  pub copy_no_start : (r : Page) → Some (r, None) ≡ option_map due_and_parent (slice_get p.due 0) → ⊥
  copy_no_start r a =
      let pair : (r, None) ≡ (q, Some (copy_comes p q e).0) = same_Some (r, None) (q, Some (copy_comes p q e).0) (a ∙ told) in
      no_parent (copy_comes p q e).0 (ap (λ (x : Page × Option Page). x.1) pair)

  pub can_copy : (parent : Page) → DueStand p → CopiesFrom p.due q parent → CanCopy p q parent
  can_copy parent d c =
      let z : CopyComes p q (copy_comes p q e).0 = (copy_comes p q e).1 in
      let same : CopyOf q (copy_comes p q e).0 ∷ z.others ≡ CopyOf q parent ∷ c.others = sym z.first ∙ c.first in
      let parents : (copy_comes p q e).0 ≡ parent = cc same in
      copy_can p q parent d (subst (CopyComes p q) parents z)
