-- What is due after a fork and in a new space.
use Rattle.std.proofs.Common.{◌≡◌, ◌≢◌, ◌⊎◌, inl, inr, ℕ, suc, ◌+◌, ◌<◌, Bool, true, false, cond, List, [], ◌∷◌, ◌++◌, length, get_or, map, Some, None, refl, sym, ap, ◌∙◌, subst, arith}
use Rattle.vm_facts.specs.declared.page.Page.{Page}
use Rattle.vm_facts.specs.declared.page.Page.TheVariants.{Data, Stack}
use Rattle.vm_facts.specs.declared.page.PageState.{PageState}
use Rattle.vm_facts.specs.declared.page.PageState.TheVariants.{Unfilled, Valid, Invalid, Coming, Going, OnSwap}
use Rattle.aout_image.specs.declared.Image.{Image}
use Rattle.page_model.specs.Pages.{Slot, Zeros, SpacePages, no_slot, data_in, stack_in}
use Rattle.page_model.specs.PageNames.{same_page}
use Rattle.page_model.specs.Placement.{Placement, Due, Start, CopyOf, due_of_page, due_page, slots_of, slot_of, state_of, image_of, unfilled, new_pages}
use Rattle.page_model.specs.Place.{child_slot, child_slot_by, copy_due, copies_from, fork_space, enter_space}
use Rattle.page_model.specs.Conditions.{IsNew}
use Rattle.page_model.specs.Dues.{HasSource, IsDue, DueStand}
use Rattle.page_model.proofs.PageNames.{same_page_is}
use Rattle.page_laws.proofs.Lists.Local.{none_some}
use Rattle.std.proofs.lemmas.Option.{same_Some}
use Rattle.page_laws.proofs.Ownership.Changes.{Alike, child_blank, add_alike, added_same}
use Rattle.page_laws.proofs.Bytes.Spaces.{map_at, map_length}

-- A page that is due among copies is a child's, and its parent's page is filled.
record CopiesAt (child parent : ℕ → Page) (xs : List Slot) (v : ℕ) (w : Page) (d : Due) : Type 0 where
  pub at : ℕ
  pub page : w ≡ child (v + at)
  pub due : d ≡ CopyOf (child (v + at)) (parent (v + at))
  pub within : at < length xs
  pub filled : (get_or xs at no_slot).state ≢ Unfilled

copies_at_here : (child parent : ℕ → Page) (x : Slot) (xs : List Slot) (v : ℕ) (w : Page) (d : Due) → x.state ≢ Unfilled → w ≡ child v
    → d ≡ CopyOf (child v) (parent v) → CopiesAt child parent (x ∷ xs) v w d
copies_at_here child parent x xs v w d n a b =
    let e : v ≡ v + 0 = omega arith in
    record { at = 0; page = a ∙ ap child e; due = b ∙ ap (λ (k : ℕ). CopyOf (child k) (parent k)) e; within = omega arith; filled = n }

copies_at_later : (child parent : ℕ → Page) (x : Slot) (xs : List Slot) (v : ℕ) (w : Page) (d : Due) → CopiesAt child parent xs (v + 1) w d
    → CopiesAt child parent (x ∷ xs) v w d
copies_at_later child parent x xs v w d r =
    let e : (v + 1) + r.at ≡ v + suc r.at = omega arith in
    record { at = suc r.at; page = r.page ∙ ap child e; due = r.due ∙ ap (λ (k : ℕ). CopyOf (child k) (parent k)) e; within = let l = r.within in omega arith; filled = r.filled }

copies_found : (child parent : ℕ → Page) (xs : List Slot) (v : ℕ) (w : Page) (d : Due) → due_of_page (copies_from child parent v xs) w ≡ Some d
    → CopiesAt child parent xs v w d
copies_found child parent [] v w d e = none_some d e
copies_found child parent (x ∷ xs) v w d e = go x.state refl e (λ k. copies_at_later child parent x xs v w d (copies_found child parent xs (v + 1) w d k))
  where
    one : (b : Bool) → same_page (child v) w ≡ b → x.state ≢ Unfilled → cond b (Some (CopyOf (child v) (parent v))) (due_of_page (copies_from child parent (v + 1) xs) w) ≡ Some d
        → (due_of_page (copies_from child parent (v + 1) xs) w ≡ Some d → CopiesAt child parent (x ∷ xs) v w d) → CopiesAt child parent (x ∷ xs) v w d
    one true h n k later = copies_at_here child parent x xs v w d n (sym (same_page_is (child v) w h)) (same_Some d (CopyOf (child v) (parent v)) (sym k))
    one false h n k later = later k

    go : (s : PageState) → x.state ≡ s → due_of_page (copy_due (child v) (parent v) s ++ copies_from child parent (v + 1) xs) w ≡ Some d
        → (due_of_page (copies_from child parent (v + 1) xs) w ≡ Some d → CopiesAt child parent (x ∷ xs) v w d) → CopiesAt child parent (x ∷ xs) v w d
    go Unfilled h k later = later k
    go (Valid f) h k later = one (same_page (child v) w) refl (λ z. let y : Valid f ≡ Unfilled = sym h ∙ z in absurd cc) k later
    go (Invalid f) h k later = one (same_page (child v) w) refl (λ z. let y : Invalid f ≡ Unfilled = sym h ∙ z in absurd cc) k later
    go (Coming f) h k later = one (same_page (child v) w) refl (λ z. let y : Coming f ≡ Unfilled = sym h ∙ z in absurd cc) k later
    go (Going f) h k later = one (same_page (child v) w) refl (λ z. let y : Going f ≡ Unfilled = sym h ∙ z in absurd cc) k later
    go OnSwap h k later = one (same_page (child v) w) refl (λ z. let y : OnSwap ≡ Unfilled = sym h ∙ z in absurd cc) k later

pub due_either : (ds es : List Due) (w : Page) (d : Due) → due_of_page (ds ++ es) w ≡ Some d → (due_of_page ds w ≡ Some d) ⊎ (due_of_page es w ≡ Some d)
due_either [] es w d e = inr e
due_either (c ∷ ds) es w d e = go (same_page (due_page c) w) e (due_either ds es w d)
  where
    go : (b : Bool) → cond b (Some c) (due_of_page (ds ++ es) w) ≡ Some d → (due_of_page (ds ++ es) w ≡ Some d → (due_of_page ds w ≡ Some d) ⊎ (due_of_page es w ≡ Some d))
        → (cond b (Some c) (due_of_page ds w) ≡ Some d) ⊎ (due_of_page es w ≡ Some d)
    go true k later = inl k
    go false k later = later k

child_zeros : (x : Slot) (s : PageState) → s ≢ Unfilled → child_slot_by x s ≡ unfilled Zeros
child_zeros x Unfilled n = absurd (n refl)
child_zeros x _ n = refl

-- The pages that a fork makes due.
pub fork_due : (p : Placement) (parent child : ℕ) → IsNew p child → DueStand (fork_space p parent child)
fork_due p parent child new w d e =
    let q : Placement = fork_space p parent child in
    let x : SpacePages =
    record { sid = child; image = image_of p parent; data_pages = map child_slot (slots_of p (Data parent 0)); stack_pages = map child_slot (slots_of p (Stack parent 0)) } in
    let alike : (v : Page) → Alike (slot_of q v) (slot_of p v) = λ v. add_alike p x q.due new (child_blank (slots_of p (Data parent 0))) (child_blank (slots_of p (Stack parent 0))) v in
    let of_data : CopiesAt (Data child) (Data parent) (slots_of p (Data parent 0)) 0 w d → IsDue q w d = λ r.
    let i : ℕ = r.at in
    let z : 0 + i ≡ i = omega arith in
    let slots : slots_of q (Data child i) ≡ map child_slot (slots_of p (Data parent 0)) = ap data_in (added_same child p.spaces x refl new) in
    let slot : slot_of q (Data child i) ≡ unfilled Zeros =
    ap (λ (xs : List Slot). get_or xs i no_slot) slots ∙ map_at (slots_of p (Data parent 0)) i r.within ∙ child_zeros (slot_of p (Data parent i)) (state_of p (Data parent i)) r.filled in
    let due : d ≡ CopyOf (Data child i) (Data parent i) = r.due ∙ ap (λ (k : ℕ). CopyOf (Data child k) (Data parent k)) z in
    subst (λ (y : Page). IsDue q y d) (sym (r.page ∙ ap (Data child) z)) (record {
      writable = tt;
      there = subst (λ (xs : List Slot). i < length xs) (sym slots) (let m = map_length (slots_of p (Data parent 0)) in let l = r.within in omega arith);
      unfilled = ap (λ (y : Slot). y.state) slot;
      zeros = ap (λ (y : Slot). y.filling) slot;
      source = subst (HasSource q) (sym due) (tt, λ h. r.filled (sym (alike (Data parent i)).0 ∙ h));
    }) in
    let of_stack : CopiesAt (Stack child) (Stack parent) (slots_of p (Stack parent 0)) 0 w d → IsDue q w d = λ r.
    let i : ℕ = r.at in
    let z : 0 + i ≡ i = omega arith in
    let slots : slots_of q (Stack child i) ≡ map child_slot (slots_of p (Stack parent 0)) = ap stack_in (added_same child p.spaces x refl new) in
    let slot : slot_of q (Stack child i) ≡ unfilled Zeros =
    ap (λ (xs : List Slot). get_or xs i no_slot) slots ∙ map_at (slots_of p (Stack parent 0)) i r.within ∙ child_zeros (slot_of p (Stack parent i)) (state_of p (Stack parent i)) r.filled in
    let due : d ≡ CopyOf (Stack child i) (Stack parent i) = r.due ∙ ap (λ (k : ℕ). CopyOf (Stack child k) (Stack parent k)) z in
    subst (λ (y : Page). IsDue q y d) (sym (r.page ∙ ap (Stack child) z)) (record {
      writable = tt;
      there = subst (λ (xs : List Slot). i < length xs) (sym slots) (let m = map_length (slots_of p (Stack parent 0)) in let l = r.within in omega arith);
      unfilled = ap (λ (y : Slot). y.state) slot;
      zeros = ap (λ (y : Slot). y.filling) slot;
      source = subst (HasSource q) (sym due) (tt, λ h. r.filled (sym (alike (Stack parent i)).0 ∙ h));
    }) in
    elim (due_either (copies_from (Data child) (Data parent) 0 (slots_of p (Data parent 0))) (copies_from (Stack child) (Stack parent) 0 (slots_of p (Stack parent 0))) w d e) [
      | inl k ↦ of_data (copies_found (Data child) (Data parent) (slots_of p (Data parent 0)) 0 w d k)
      | inr k ↦ of_stack (copies_found (Stack child) (Stack parent) (slots_of p (Stack parent 0)) 0 w d k)
    ]

-- The stack page of a new space.
pub enter_due : (p : Placement) (sid image : ℕ) (facts : Image) → IsNew p sid → DueStand (enter_space p sid image facts)
enter_due p sid image facts new w d e = go (same_page (Stack sid 0) w) refl e
  where
    q : Placement
    q = enter_space p sid image facts

    slots : slots_of q (Stack sid 0) ≡ unfilled Zeros ∷ []
    slots = ap stack_in (added_same sid p.spaces (new_pages sid image facts) refl new)

    go : (b : Bool) → same_page (Stack sid 0) w ≡ b → cond b (Some (Start (Stack sid 0))) None ≡ Some d → IsDue q w d
    go false h k = none_some d k
    go true h k = subst (λ (y : Page). IsDue q y d) (same_page_is (Stack sid 0) w h) (record {
      writable = tt;
      there = subst (λ (xs : List Slot). 0 < length xs) (sym slots) (omega arith);
      unfilled = ap (λ (xs : List Slot). (get_or xs 0 no_slot).state) slots;
      zeros = ap (λ (xs : List Slot). (get_or xs 0 no_slot).filling) slots;
      source = subst (HasSource q) (same_Some (Start (Stack sid 0)) d k) tt;
    })
