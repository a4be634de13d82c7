-- What the front hand's change makes of the pages that the back hand takes along.
use Rattle.std.proofs.Common.{◌≡◌, ◌⊎◌, inl, inr, ℕ, ◌==◌, ◌&&◌, ◌||◌, not, Bool, true, false, List, Option, Some, None, refl, sym, ap, ◌∙◌}
use Rattle.vm_facts.specs.declared.page.Page.{Page}
use Rattle.vm_facts.specs.declared.page.PageState.{PageState}
use Rattle.vm_facts.specs.declared.page.PageState.TheVariants.{Unfilled, Valid, Invalid, Coming, Going, OnSwap}
use Rattle.vm_facts.specs.Lists.{times}
use Rattle.flat_state.specs.PageNames.{is_among}
use Rattle.flat_state.proofs.PageNames.{same_page_self, same_page_is}
use Rattle.page_model.specs.Pages.{Slot, frame_of, is_valid, is_dirty_by}
use Rattle.page_model.specs.Placement.{Placement, slot_of, state_of, mark_of, is_dirty, page_of}
use Rattle.page_model.specs.Runs.{is_idle_by, is_seated_by, is_seated, goes_along}
use Rattle.page_model.specs.Hands.{expire, expire_of, expire_if, expire_to}
use Rattle.page_laws.proofs.Lists.Pages.{page_cases, put_state, put_mark, put_other}
use Rattle.page_laws.proofs.Moves.Steps.{page_in}
use Rattle.page_laws.proofs.Moves.Stays.{expire_free}
use Rattle.kluster_io.specs.Front.{Expires, is_front}

-- a page that was valid is invalid in its frame, and keeps its mark
record Turned (p r : Placement) (q : Page) : Type 0 where
  frame : ℕ
  was : state_of p q ≡ Valid frame
  state : state_of r q ≡ Invalid frame
  mark : mark_of r q ≡ mark_of p q

turned : (p : Placement) (locked : List Page) (q : Page) → (slot_of (expire p locked) q ≡ slot_of p q) ⊎ Turned p (expire p locked) q
turned p locked q = go (page_of p p.front)
  where
    to : (v : Page) (s : PageState) → state_of p v ≡ s → (slot_of (expire_to p v s) q ≡ slot_of p q) ⊎ Turned p (expire_to p v s) q
    to v (Valid f) e = elim (page_cases q v) [
      | inl h ↦ inr (record {
        frame = f;
        was = ap (state_of p) h ∙ e;
        state = ap (state_of (expire_to p v (Valid f))) h ∙ put_state p v (Invalid f) (mark_of p v) (page_in p v f (ap frame_of e));
        mark = ap (mark_of (expire_to p v (Valid f))) h ∙ put_mark p v (Invalid f) (mark_of p v) (page_in p v f (ap frame_of e)) ∙ ap (mark_of p) (sym h);
      })
      | inr n ↦ inl (put_other p v (Invalid f) (mark_of p v) q n)
    ]
    to v Unfilled e = inl refl
    to v (Invalid f) e = inl refl
    to v (Coming f) e = inl refl
    to v (Going f) e = inl refl
    to v OnSwap e = inl refl

    at : (v : Page) (b : Bool) → (slot_of (expire_if p v b) q ≡ slot_of p q) ⊎ Turned p (expire_if p v b) q
    at v true = inl refl
    at v false = to v (state_of p v) refl

    go : (o : Option Page) → (slot_of (expire_of p locked o) q ≡ slot_of p q) ⊎ Turned p (expire_of p locked o) q
    go None = inl refl
    go (Some v) = at v (is_among v locked)

front_is : (q : Page) (front : Option Page) → front ≡ Some q → is_front q front ≡ true
front_is q front e = ap (is_front q) e ∙ same_page_self q

front_named : (q : Page) (front : Option Page) → is_front q front ≡ true → front ≡ Some q
front_named q None e = absurd cc
front_named q (Some r) e = ap (λ (x : Page). Some x) (sym (same_page_is q r e))

front_not : (q : Page) (front : Option Page) → (front ≡ Some q → ⊥) → is_front q front ≡ false
front_not q front n = go (is_front q front) refl
  where
    go : (b : Bool) → is_front q front ≡ b → b ≡ false
    go true e = absurd (n (front_named q front e))
    go false e = refl

open_same : (t d u x : Bool) → (t && (d && u)) ≡ ((t && d) && (u && (x || true)))
open_same false d u x = refl
open_same true false u x = refl
open_same true true false x = refl
open_same true true true true = refl
open_same true true true false = refl

shut_same : (d u x : Bool) → x ≡ false → false ≡ ((true && d) && (u && (x || false)))
shut_same false u x e = refl
shut_same true false x e = refl
shut_same true true x e = ap (λ (b : Bool). b || false) (sym e)

turn_same : (t d u x : Bool) → t ≡ true → x ≡ true → (t && (d && u)) ≡ ((true && d) && (u && (x || false)))
turn_same t d u x e h = ap (λ (b : Bool). b && (d && u)) e ∙ go d u ∙ ap (λ (b : Bool). (true && d) && (u && (b || false))) (sym h)
  where
    go : (a b : Bool) → (true && (a && b)) ≡ ((true && a) && (b && (true || false)))
    go false b = refl
    go true false = refl
    go true true = refl

-- by the state of a page that stays as it is
stays : (p r : Placement) (q : Page) (s : PageState) (u x : Bool) → r.free ≡ p.free → (is_valid s ≡ true → x ≡ false)
    → (is_idle_by r s && (is_dirty p q && u)) ≡ ((is_seated_by p s && is_dirty p q) && (u && (x || not (is_valid s))))
stays p r q Unfilled u x e n = refl
stays p r q (Valid f) u x e n = shut_same (is_dirty p q) u x (n refl)
stays p r q (Invalid f) u x e n = ap (λ (free : List ℕ). (times f free == 0) && (is_dirty p q && u)) e ∙ open_same (times f p.free == 0) (is_dirty p q) u x
stays p r q (Coming f) u x e n = refl
stays p r q (Going f) u x e n = refl
stays p r q OnSwap u x e n = refl

none_listed : (f : ℕ) (free other : List ℕ) → other ≡ free → times f free ≡ 0 → (times f other == 0) ≡ true
none_listed f free other e z = ap (λ (fs : List ℕ). times f fs == 0) e ∙ ap (λ (n : ℕ). n == 0) z

-- what the back hand takes along behind the front hand's change: what is dirty in a frame off the free list, isn't
-- locked, and is invalid or the front page
pub goes_behind : (p : Placement) (locked : List Page) (front : Option Page) (q : Page) → Expires p locked front
    → ((f : ℕ) → state_of p q ≡ Valid f → times f p.free ≡ 0)
    → goes_along (expire p locked) locked q
    ≡ ((is_seated p q && is_dirty p q) && (not (is_among q locked) && (is_front q front || not (is_valid (state_of p q)))))
goes_behind p locked front q x off = elim (turned p locked q) [
  | inl e ↦
      ap (λ (y : Slot). is_idle_by (expire p locked) y.state && (is_dirty_by q y.mark && not (is_among q locked))) e
      ∙ stays p (expire p locked) q (state_of p q) (not (is_among q locked)) (is_front q front) (expire_free p locked)
      (λ v. front_not q front (λ h. let k = (x q).0 h in let valid : is_valid (state_of p q) ≡ false = ap (λ (y : Slot). is_valid y.state) (sym e) ∙ k.1 in absurd cc))
  | inr t ↦
      ap (λ (s : PageState). is_idle_by (expire p locked) s && (is_dirty (expire p locked) q && not (is_among q locked))) t.state
      ∙ ap (λ (m : Bool). (times t.frame (expire p locked).free == 0) && (is_dirty_by q m && not (is_among q locked))) t.mark
      ∙ turn_same (times t.frame (expire p locked).free == 0) (is_dirty p q) (not (is_among q locked)) (is_front q front)
      (none_listed t.frame p.free (expire p locked).free (expire_free p locked) (off t.frame t.was))
      (front_is q front ((x q).1 (ap is_valid t.was, ap is_valid t.state)))
      ∙ ap (λ (s : PageState). (is_seated_by p s && is_dirty p q) && (not (is_among q locked) && (is_front q front || not (is_valid s)))) (sym t.was)
]

pub taken : (p : Placement) (locked : List Page) (front : Option Page) (q : Page) (s : PageState) (seat may : Bool) → Expires p locked front
    → ((f : ℕ) → state_of p q ≡ Valid f → times f p.free ≡ 0)
    → state_of p q ≡ s → seat ≡ (is_seated_by p s && is_dirty p q) → may ≡ (not (is_among q locked) && (is_front q front || not (is_valid s)))
    → (seat && may) ≡ goes_along (expire p locked) locked q
taken p locked front q s seat may x off e g h =
    ap (λ (b : Bool). b && may) g
    ∙ ap (λ (b : Bool). (is_seated_by p s && is_dirty p q) && b) h
    ∙ ap (λ (y : PageState). (is_seated_by p y && is_dirty p q) && (not (is_among q locked) && (is_front q front || not (is_valid y)))) (sym e)
    ∙ sym (goes_behind p locked front q x off)
