-- Where no reason is given the line may come: a page that is filled with zeros, or taken back.
use Rattle.std.proofs.Common.{◌≡◌, ℕ, ◌<◌, nat_lt, true, List, [], ◌∷◌, length, None, refl, arith}
use Rattle.std.proofs.lemmas.Bool.Decides.{nat_tests}
use Rattle.vm_facts.specs.declared.page.Page.{Page}
use Rattle.vm_facts.specs.declared.page.Page.TheVariants.{Data, Stack, Text}
use Rattle.vm_facts.specs.declared.page.PageState.{PageState}
use Rattle.vm_facts.specs.declared.page.PageState.TheVariants.{Unfilled, Valid, Invalid, Coming, Going, OnSwap}
use Rattle.flat_state.specs.PageNames.{same_page}
use Rattle.flat_state.proofs.PageNames.{same_page_is}
use Rattle.page_model.specs.Pages.{Filling, Zeros, OfImage}
use Rattle.page_model.specs.Placement.{Placement, Due, Start, CopyOf, slot_of, state_of, filling_by, filling_of, IsThere, sharers}
use Rattle.page_model.specs.Conditions.{IsShared}
use Rattle.page_model.specs.PageBytes.{IsWritable}
use Rattle.paged_model.specs.declared.reason.Reason.TheVariants as reasons
use Rattle.paged_model.specs.Reasons.{unless, or_reason}
use Rattle.paged_model.specs.Coming.{FirstStart, ZeroComes, ReclaimComes}
use Rattle.paged_model.specs.Moves.{is_there, has_zeros, no_frame, unshared, zero_due, zero_by, zero_reason, reclaim_by, reclaim_reason}
use Rattle.paged_model.proofs.Reasoned.{or_none, unless_none}
use Rattle.paged_model.proofs.There.{true_there, if_there_none}

pub some_free : (fs : List ℕ) → no_frame fs ≡ None → 0 < length fs
some_free [] e = absurd cc
some_free (f ∷ fs) e = omega arith

-- what zeros fill is no text
zeros_writable : (q : Page) (x : Filling) → has_zeros (filling_by q x) ≡ true → IsWritable q × (filling_by q x ≡ Zeros)
zeros_writable (Data sid v) Zeros e = (tt, refl)
zeros_writable (Data sid v) OfImage e = absurd cc
zeros_writable (Stack sid v) Zeros e = (tt, refl)
zeros_writable (Stack sid v) OfImage e = absurd cc
zeros_writable (Text image v) x e = absurd cc

first_start : (ds : List Due) (q : Page) → zero_due ds q ≡ None → FirstStart ds q
first_start [] q e = tt
first_start (Start r ∷ ds) q e = same_page_is r q (unless_none (same_page r q) (reasons.DueFirst r) e)
first_start (CopyOf r parent ∷ ds) q e = absurd cc

zero_state : (p : Placement) (q : Page) (s : PageState) → zero_by p q s ≡ None → (s ≡ Unfilled) × (zero_by p q Unfilled ≡ None)
zero_state p q Unfilled e = (refl, e)
zero_state p q (Valid f) e = absurd cc
zero_state p q (Invalid f) e = absurd cc
zero_state p q (Coming f) e = absurd cc
zero_state p q (Going f) e = absurd cc
zero_state p q OnSwap e = absurd cc

pub zero_comes : (p : Placement) (q : Page) → zero_reason p q ≡ None → ZeroComes p q
zero_comes p q e =
    let a = if_there_none (is_there p q) q (zero_by p q (state_of p q)) e in
    let s = zero_state p q (state_of p q) a.1 in
    let b = or_none (unless (has_zeros (filling_of p q)) (reasons.FromFile q)) (or_reason (zero_due p.due q) (no_frame p.free)) s.1 in
    let c = or_none (zero_due p.due q) (no_frame p.free) b.1 in
    let z = zeros_writable q (slot_of p q).filling (unless_none (has_zeros (filling_of p q)) (reasons.FromFile q) b.0) in
    record {
      writable = z.0;
      there = true_there p q a.0;
      unfilled = s.0;
      zeros = z.1;
      first = first_start p.due q c.0;
      free = some_free p.free c.1;
    }

-- text that is shared
pub shared_is : (p : Placement) (q : Page) → unshared p q ≡ None → IsShared p q
shared_is p (Data sid v) e = tt
shared_is p (Stack sid v) e = tt
shared_is p (Text image v) e =
    let b : nat_lt 0 (sharers p image) ≡ true = unless_none (nat_lt 0 (sharers p image)) (reasons.Unshared (Text image v)) e in grind (arith, nat_tests)

pub reclaim_comes : (p : Placement) (q : Page) → reclaim_reason p q ≡ None → ReclaimComes p q
reclaim_comes p q e =
    let a = if_there_none (is_there p q) q (reclaim_by p q (state_of p q)) e in go (true_there p q a.0) (state_of p q) refl a.1
  where
    go : IsThere p q → (s : PageState) → state_of p q ≡ s → reclaim_by p q s ≡ None → ReclaimComes p q
    go there (Invalid f) i r = record { there = there; frame = f; invalid = i; shared = shared_is p q r }
    go there Unfilled i r = absurd cc
    go there (Valid f) i r = absurd cc
    go there (Coming f) i r = absurd cc
    go there (Going f) i r = absurd cc
    go there OnSwap i r = absurd cc
