-- Finding the frame of a page goes on over slots that don't have it.
use Rattle.std.proofs.Common.{◌≡◌, ◌≢◌, ℕ, zero, suc, ◌+◌, Bool, true, false, cond, List, [], ◌∷◌, set, Option, Some, None, refl, sym, ap, ◌∙◌}
use Rattle.vm_facts.specs.declared.page.Page.{Page}
use Rattle.core_map.specs.declared.slot.Slot.{Slot as Token}
use Rattle.core_map.specs.Slots.{slot_page, slot_at}
use Rattle.flat_state.specs.PageNames.{same_page}
use Rattle.flat_state.proofs.PageNames.{same_page_is}
use Rattle.kernel_tables.specs.Found.{holds_it, found_from, frame_holding}

pub not_held : (o : Option Page) (q : Page) → o ≢ Some q → holds_it o q ≡ false
not_held None q n = refl
not_held (Some r) q n = go (same_page r q) refl
  where
    go : (b : Bool) → same_page r q ≡ b → b ≡ false
    go true e = absurd (n (ap (λ (x : Page). Some x) (same_page_is r q e)))
    go false e = refl

-- the slot of one frame changes, and has the page neither before nor after
found_set : (n : ℕ) (ss : List Token) (f : ℕ) (x : Token) (q : Page) → slot_page (slot_at ss f) ≢ Some q → slot_page x ≢ Some q
    → found_from n (set ss f x) q ≡ found_from n ss q
found_set n [] f x q a b = refl
found_set n (s ∷ ss) zero x q a b = ap (λ (c : Bool). cond c (Some n) (found_from (n + 1) ss q)) (not_held (slot_page x) q b ∙ sym (not_held (slot_page s) q a))
found_set n (s ∷ ss) (suc f) x q a b = ap (λ (o : Option ℕ). cond (holds_it (slot_page s) q) (Some n) o) (found_set (n + 1) ss f x q a b)

pub holding_set : (ss : List Token) (f : ℕ) (x : Token) (q : Page) → slot_page (slot_at ss f) ≢ Some q → slot_page x ≢ Some q
    → frame_holding (set ss f x) q ≡ frame_holding ss q
holding_set ss f x q a b = found_set 0 ss f x q a b

found_none : (n : ℕ) (ss : List Token) (q : Page) → ((f : ℕ) → slot_page (slot_at ss f) ≢ Some q) → found_from n ss q ≡ None
found_none n [] q h = refl
found_none n (s ∷ ss) q h = ap (λ (c : Bool). cond c (Some n) (found_from (n + 1) ss q)) (not_held (slot_page s) q (h 0)) ∙ found_none (n + 1) ss q (λ f. h (suc f))

pub holding_none : (ss : List Token) (q : Page) → ((f : ℕ) → slot_page (slot_at ss f) ≢ Some q) → frame_holding ss q ≡ None
holding_none ss q h = found_none 0 ss q h
