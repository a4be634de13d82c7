-- The page that the back hand takes.
use Rattle.std.proofs.Common.{◌≡◌, inr, ℕ, zero, Bool, true, false, List, Option, Some, None, refl, sym, ap, ◌∙◌, subst}
use Rattle.std.proofs.lemmas.Option.{same_Some}
use Rattle.vm_facts.specs.declared.page.Page.{Page}
use Rattle.vm_facts.specs.declared.page.PageState.{PageState}
use Rattle.vm_facts.specs.declared.page.PageState.TheVariants.{Invalid}
use Rattle.vm_facts.specs.Lists.{times}
use Rattle.page_model.specs.PageNames.{is_among}
use Rattle.page_model.specs.Pages.{frame_of}
use Rattle.page_model.specs.Placement.{Placement, state_of, is_dirty, page_of}
use Rattle.page_model.specs.Moves.{launch_run, retire}
use Rattle.page_model.specs.Runs.{run_out, pages_of_run}
use Rattle.page_model.specs.Hands.{taken_by, taken_of, taken, sweep_by, sweep_taken, sweep}
use Rattle.page_model.specs.Conditions.{HasSeat}
use Rattle.page_model.specs.Ownership.{OwnsFrames}

-- the page in the frame at the back hand, invalid off the free list, and not locked
pub record IsTaken (p : Placement) (locked : List Page) (q : Page) : Type 0 where
  pub held : page_of p p.back ≡ Some q
  pub frame : ℕ
  pub state : state_of p q ≡ Invalid frame
  pub off : times p.back p.free ≡ 0
  pub unlocked : is_among q locked ≡ false

pub is_taken : (p : Placement) (locked : List Page) (q : Page) → taken p locked ≡ Some q → IsTaken p locked q
is_taken p locked q e = of (page_of p p.back) refl e
  where
    by : (v : Page) (s : PageState) (n : ℕ) (b : Bool) → page_of p p.back ≡ Some v → state_of p v ≡ s → times p.back p.free ≡ n → is_among v locked ≡ b
        → taken_by v s n b ≡ Some q → IsTaken p locked q
    by v (Invalid f) zero false h s n b e = subst (IsTaken p locked) (same_Some v q e) (record { held = h; frame = f; state = s; off = n; unlocked = b })
    by v _ _ _ h s n b e = absurd cc

    of : (o : Option Page) → page_of p p.back ≡ o → taken_of p locked o ≡ Some q → IsTaken p locked q
    of None h e = absurd cc
    of (Some v) h e = by v (state_of p v) (times p.back p.free) (is_among v locked) h refl refl refl e

pub taken_is : (p : Placement) (locked : List Page) (q : Page) → IsTaken p locked q → taken p locked ≡ Some q
taken_is p locked q t =
    ap (taken_of p locked) t.held ∙ ap (λ (s : PageState). taken_by q s (times p.back p.free) (is_among q locked)) t.state
    ∙ ap (λ (n : ℕ). taken_by q (Invalid t.frame) n (is_among q locked)) t.off ∙ ap (taken_by q (Invalid t.frame) zero) t.unlocked

pub taken_none : (p : Placement) (locked : List Page) → ((q : Page) → IsTaken p locked q → ⊥) → taken p locked ≡ None
taken_none p locked never = go (taken p locked) refl
  where
    go : (o : Option Page) → taken p locked ≡ o → o ≡ None
    go None e = refl
    go (Some q) e = absurd (never q (is_taken p locked q e))

-- its frame is the one at the hand
pub taken_state : (p : Placement) (locked : List Page) (q : Page) → OwnsFrames p → IsTaken p locked q → state_of p q ≡ Invalid p.back
taken_state p locked q o t = t.state ∙ ap Invalid (same_Some t.frame p.back (sym (ap frame_of t.state) ∙ o.named p.back q t.held))

pub taken_seat : (p : Placement) (locked : List Page) (q : Page) → OwnsFrames p → IsTaken p locked q → HasSeat p q
taken_seat p locked q o t = record { frame = p.back; seat = record { state = inr (taken_state p locked q o t, t.off) } }

-- The back hand's part, by cases: nothing changes, the write of a dirty page's run begins, or a clean page's frame goes to the tail.
pub sweep_cases : (P : Placement → Type 0) (p : Placement) (locked : List Page) → P p
    → ((q : Page) → IsTaken p locked q → is_dirty p q ≡ true → P (launch_run p (pages_of_run q (run_out p locked q))))
    → ((q : Page) → IsTaken p locked q → is_dirty p q ≡ false → P (retire p q)) → P (sweep p locked)
sweep_cases P p locked still writes frees = go (taken p locked) refl
  where
    by : (q : Page) (d : Bool) → IsTaken p locked q → is_dirty p q ≡ d → P (sweep_by p locked q d)
    by q true t e = writes q t e
    by q false t e = frees q t e

    go : (o : Option Page) → taken p locked ≡ o → P (sweep_taken p locked o)
    go None e = still
    go (Some q) e = by q (is_dirty p q) (is_taken p locked q e) refl
