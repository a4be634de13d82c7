-- The page that the front hand makes invalid.
use Rattle.std.proofs.Common.{◌≡◌, ◌≢◌, inl, inr, ℕ, Bool, true, false, List, Option, Some, None, refl, sym, ap, ◌∙◌, subst}
use Rattle.std.proofs.lemmas.Option.{same_Some}
use Rattle.vm_facts.specs.declared.page.Page.{Page}
use Rattle.vm_facts.specs.declared.page.PageState.{PageState}
use Rattle.vm_facts.specs.declared.page.PageState.TheVariants.{Unfilled, Valid, Invalid, Coming, Going, OnSwap}
use Rattle.flat_state.specs.PageNames.{is_among}
use Rattle.page_model.specs.Pages.{Slot, frame_of, is_valid}
use Rattle.page_model.specs.Placement.{Placement, slot_of, state_of, mark_of, page_of}
use Rattle.page_model.specs.Hands.{expire, expire_of, expire_if, expire_to}
use Rattle.page_model.specs.Conditions.{IsSeated}
use Rattle.page_model.specs.Ownership.{OwnsFrames}
use Rattle.page_laws.proofs.Lists.Local.{none_some}
use Rattle.page_laws.proofs.Lists.Pages.{page_cases, put_state, put_other}
use Rattle.page_laws.proofs.Moves.Steps.{page_in}
use Rattle.page_laws.proofs.Ownership.Pages.{seated_frame}
use Rattle.kluster_io.specs.Front.{Expires}
use Rattle.clock_hands.specs.Seen.{IsUnlocked}

-- a page that isn't at the front hand stays as it is

other_to : (p : Placement) (v q : Page) (s : PageState) → q ≢ v → slot_of (expire_to p v s) q ≡ slot_of p q
other_to p v q (Valid f) n = put_other p v (Invalid f) (mark_of p v) q n
other_to p v q Unfilled n = refl
other_to p v q (Invalid f) n = refl
other_to p v q (Coming f) n = refl
other_to p v q (Going f) n = refl
other_to p v q OnSwap n = refl

other_if : (p : Placement) (v q : Page) (b : Bool) → q ≢ v → slot_of (expire_if p v b) q ≡ slot_of p q
other_if p v q true n = refl
other_if p v q false n = other_to p v q (state_of p v) n

module _ (p : Placement) (locked : List Page) (q : Page) where
  other_of : (o : Option Page) → o ≢ Some q → slot_of (expire_of p locked o) q ≡ slot_of p q
  other_of None n = refl
  other_of (Some v) n = other_if p v q (is_among v locked) (λ e. n (ap (λ (x : Page). Some x) (sym e)))

  pub expire_other : page_of p p.front ≢ Some q → slot_of (expire p locked) q ≡ slot_of p q
  expire_other n = other_of (page_of p p.front) n

  -- the page at the front hand stays as it is, where it is locked
  pub expire_locked : page_of p p.front ≡ Some q → is_among q locked ≡ true → expire p locked ≡ p
  expire_locked e l = ap (expire_of p locked) e ∙ ap (expire_if p q) l

  -- and where it isn't locked and is valid, it is invalid
  pub expire_turns : (f : ℕ) → page_of p p.front ≡ Some q → is_among q locked ≡ false → state_of p q ≡ Valid f → state_of (expire p locked) q ≡ Invalid f
  expire_turns f e l s =
      ap (λ (r : Placement). state_of r q) (ap (expire_of p locked) e ∙ ap (expire_if p q) l ∙ ap (expire_to p q) s)
      ∙ put_state p q (Invalid f) (mark_of p q) (page_in p q f (ap frame_of s))

not_both : (b : Bool) → b ≡ true → b ≡ false → true ≡ false
not_both b x y = sym x ∙ y

-- a page that is valid no more was at the front hand, and isn't locked
pub expired_here : (p : Placement) (locked : List Page) (q : Page) → is_valid (state_of p q) ≡ true → is_valid (state_of (expire p locked) q) ≡ false
    → (page_of p p.front ≡ Some q) × (is_among q locked ≡ false)
expired_here p locked q v w = at (page_of p p.front) refl
  where
    same : slot_of (expire p locked) q ≡ slot_of p q → true ≡ false
    same e = not_both (is_valid (state_of p q)) v (ap (λ (s : Slot). is_valid s.state) (sym e) ∙ w)

    free : page_of p p.front ≡ Some q → (b : Bool) → is_among q locked ≡ b → (page_of p p.front ≡ Some q) × (is_among q locked ≡ false)
    free e true l = absurd (let x = same (ap (λ (r : Placement). slot_of r q) (expire_locked p locked q e l)) in cc)
    free e false l = (e, l)

    at : (o : Option Page) → page_of p p.front ≡ o → (page_of p p.front ≡ Some q) × (is_among q locked ≡ false)
    at None e = absurd (let x = same (expire_other p locked q (λ h. none_some q (sym e ∙ h))) in cc)
    at (Some r) e = elim (page_cases q r) [
      | inl s ↦ free (e ∙ ap (λ (x : Page). Some x) (sym s)) (is_among q locked) refl
      | inr n ↦ absurd (let x = same (expire_other p locked q (λ h. n (same_Some q r (sym h ∙ e)))) in cc)
    ]

record ValidIn (p : Placement) (q : Page) : Type 0 where
  frame : ℕ
  state : state_of p q ≡ Valid frame

valid_in : (p : Placement) (q : Page) → is_valid (state_of p q) ≡ true → ValidIn p q
valid_in p q v = go (state_of p q) refl
  where
    go : (s : PageState) → state_of p q ≡ s → ValidIn p q
    go (Valid f) e = record { frame = f; state = e }
    go Unfilled e = absurd (let x = not_both (is_valid (state_of p q)) v (ap is_valid e) in cc)
    go (Invalid f) e = absurd (let x = not_both (is_valid (state_of p q)) v (ap is_valid e) in cc)
    go (Coming f) e = absurd (let x = not_both (is_valid (state_of p q)) v (ap is_valid e) in cc)
    go (Going f) e = absurd (let x = not_both (is_valid (state_of p q)) v (ap is_valid e) in cc)
    go OnSwap e = absurd (let x = not_both (is_valid (state_of p q)) v (ap is_valid e) in cc)

valid_seat : (p : Placement) (q : Page) (f : ℕ) → OwnsFrames p → page_of p f ≡ Some q → is_valid (state_of p q) ≡ true → IsSeated p q f
valid_seat p q f o e v =
    let x = valid_in p q v in
    let same : x.frame ≡ f = same_Some x.frame f (sym (ap frame_of x.state) ∙ o.named f q e) in
    record { state = inl (x.state ∙ ap Valid same) }

-- the three answers

pub front_none : (p : Placement) (locked : List Page) → OwnsFrames p → IsUnlocked p locked p.front None → Expires p locked None
front_none p locked o h q = (
  (λ e. none_some q e),
  (λ x. let e = expired_here p locked q x.0 x.1 in
      absurd (let y = not_both (is_among q locked) (h q (valid_seat p q p.front o e.0 x.0)) e.1 in cc)),
)

pub front_still : (p : Placement) (locked : List Page) (w : Page) → OwnsFrames p → IsUnlocked p locked p.front (Some w)
    → is_valid (state_of p w) ≡ false → Expires p locked None
front_still p locked w o h v q = (
  (λ e. none_some q e),
  (λ x.
      let e = expired_here p locked q x.0 x.1 in
      let same : w ≡ q = same_Some w q (sym (o.names w p.front (seated_frame p w p.front h.0)) ∙ e.0) in
      absurd (let y = not_both (is_valid (state_of p q)) x.0 (ap (λ (r : Page). is_valid (state_of p r)) (sym same) ∙ v) in cc)),
)

pub front_expires : (p : Placement) (locked : List Page) (w : Page) → OwnsFrames p → IsUnlocked p locked p.front (Some w) → is_valid (state_of p w) ≡ true
    → Expires p locked (Some w)
front_expires p locked w o h v q = (
  (λ e.
      let held : page_of p p.front ≡ Some w = o.names w p.front (seated_frame p w p.front h.0) in
      let x = valid_in p w v in
      subst (λ (r : Page). (is_valid (state_of p r) ≡ true) × (is_valid (state_of (expire p locked) r) ≡ false)) (same_Some w q e)
      (v, ap is_valid (expire_turns p locked w x.frame held h.1 x.state))),
  (λ x.
      let e = expired_here p locked q x.0 x.1 in
      sym (o.names w p.front (seated_frame p w p.front h.0)) ∙ e.0),
)
