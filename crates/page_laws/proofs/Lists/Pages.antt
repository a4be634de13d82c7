-- One page is put, and no other changes.
use Rattle.std.proofs.Common.{◌≡◌, ◌≢◌, ◌⊎◌, inl, inr, ℕ, zero, suc, ◌+◌, ◌<◌, ◌==◌, Bool, cond, List, [], ◌∷◌, length, get_or, Option, Some, None, refl, sym, ap, ◌∙◌, subst, arith}
use Rattle.std.proofs.lemmas.Bool.{cases_eq}
use Rattle.std.proofs.lemmas.Bool.Decides.{nat_tests}
use Rattle.vm_facts.specs.declared.page.Page.{Page}
use Rattle.vm_facts.specs.declared.page.Page.TheVariants.{Data, Stack, Text}
use Rattle.vm_facts.specs.declared.page.PageState.{PageState}
use Rattle.page_model.specs.Pages.{Slot, no_slot, change_slot, filling_behind, SpacePages, TextPages, numbered, changed, data_in, stack_in, text_in, with_data, with_stack, with_text}
use Rattle.page_model.specs.PageNames.{number_of, beside}
use Rattle.page_model.specs.Placement.{Placement, slots_of, slot_of, state_of, mark_of, IsThere, put, space_number, image_number, sharers_in, sharers}

-- Two pages are one, or not.

abbrev pub key_of : Page → ℕ
key_of (Data sid v) = sid
key_of (Stack sid v) = sid
key_of (Text image v) = image

both_cases : (make : ℕ → ℕ → Page) → ((k v : ℕ) → key_of (make k v) ≡ k) → ((k v : ℕ) → number_of (make k v) ≡ v)
    → (a b v w : ℕ) → (make a v ≡ make b w) ⊎ (make a v ≢ make b w)
both_cases make keys numbers a b v w = elim (cases_eq a b) [
  | inl e ↦ elim (cases_eq v w) [
    | inl k ↦ inl (ap (λ (x : ℕ). make x v) e ∙ ap (λ (x : ℕ). make b x) k)
    | inr n ↦ inr (λ h. n (sym (numbers a v) ∙ ap number_of h ∙ numbers b w))
  ]
  | inr n ↦ inr (λ h. n (sym (keys a v) ∙ ap key_of h ∙ keys b w))
]

pub page_cases : (q r : Page) → (q ≡ r) ⊎ (q ≢ r)
page_cases (Data a v) (Data b w) = both_cases Data (λ k x. refl) (λ k x. refl) a b v w
page_cases (Stack a v) (Stack b w) = both_cases Stack (λ k x. refl) (λ k x. refl) a b v w
page_cases (Text a v) (Text b w) = both_cases Text (λ k x. refl) (λ k x. refl) a b v w
page_cases _ (Text b w) = inr (λ h. absurd cc)
page_cases _ (Data b w) = inr (λ h. absurd cc)
page_cases _ (Stack b w) = inr (λ h. absurd cc)

-- Slots of a segment.

pub change_same : (xs : List Slot) (v : ℕ) (s : PageState) (m : Bool) → v < length xs
    → get_or (change_slot xs v s m) v no_slot ≡ record { state = s; mark = m; filling = filling_behind s (get_or xs v no_slot).filling }
change_same [] v s m l = absurd (omega arith)
change_same (x ∷ xs) zero s m l = refl
change_same (x ∷ xs) (suc v) s m l = change_same xs v s m (omega arith)

pub change_other : (xs : List Slot) (v w : ℕ) (s : PageState) (m : Bool) → w ≢ v → get_or (change_slot xs v s m) w no_slot ≡ get_or xs w no_slot
change_other [] v w s m n = refl
change_other (x ∷ xs) zero zero s m n = absurd (n refl)
change_other (x ∷ xs) zero (suc w) s m n = refl
change_other (x ∷ xs) (suc v) zero s m n = refl
change_other (x ∷ xs) (suc v) (suc w) s m n = change_other xs v w s m (λ e. n (ap suc e))

pub length_change : (xs : List Slot) (v : ℕ) (s : PageState) (m : Bool) → length (change_slot xs v s m) ≡ length xs
length_change [] v s m = refl
length_change (x ∷ xs) zero s m = refl
length_change (x ∷ xs) (suc v) s m = ap suc (length_change xs v s m)

-- Numbered items.

abbrev pub mapped : {A : Type 0} → (A → A) → Option A → Option A
mapped change None = None
mapped change (Some x) = Some (change x)

pub numbered_hit : {A : Type 0} (number : A → ℕ) (n : ℕ) (x : A) (xs : List A) → number x ≡ n → numbered number n (x ∷ xs) ≡ Some x
numbered_hit number n x xs e = grind (arith, nat_tests)

pub numbered_miss : {A : Type 0} (number : A → ℕ) (n : ℕ) (x : A) (xs : List A) → number x ≢ n → numbered number n (x ∷ xs) ≡ numbered number n xs
numbered_miss number n x xs e = grind (arith, nat_tests)

changed_hit : {A : Type 0} (number : A → ℕ) (n : ℕ) (change : A → A) (x : A) (xs : List A) → number x ≡ n → changed number n change (x ∷ xs) ≡ change x ∷ xs
changed_hit number n change x xs e = grind (arith, nat_tests)

changed_miss : {A : Type 0} (number : A → ℕ) (n : ℕ) (change : A → A) (x : A) (xs : List A) → number x ≢ n
    → changed number n change (x ∷ xs) ≡ x ∷ changed number n change xs
changed_miss number n change x xs e = grind (arith, nat_tests)

pub changed_same : {A : Type 0} (number : A → ℕ) (n : ℕ) (change : A → A) → ((x : A) → number (change x) ≡ number x) → (xs : List A)
    → numbered number n (changed number n change xs) ≡ mapped change (numbered number n xs)
changed_same number n change k [] = refl
changed_same number n change k (x ∷ xs) = elim (cases_eq (number x) n) [
  | inl e ↦ rw (changed_hit number n change x xs e, numbered_hit number n x xs e) (numbered_hit number n (change x) xs (k x ∙ e))
  | inr d ↦ rw (changed_miss number n change x xs d, numbered_miss number n x xs d) (numbered_miss number n x (changed number n change xs) d ∙ changed_same number n change k xs)
]

pub changed_other : {A : Type 0} (number : A → ℕ) (n j : ℕ) (change : A → A) → ((x : A) → number (change x) ≡ number x) → j ≢ n → (xs : List A)
    → numbered number j (changed number n change xs) ≡ numbered number j xs
changed_other number n j change k d [] = refl
changed_other number n j change k d (x ∷ xs) = elim (cases_eq (number x) n) [
  | inl e ↦ rw (changed_hit number n change x xs e) (numbered_miss number j (change x) xs (λ h. d (sym h ∙ k x ∙ e)) ∙ sym (numbered_miss number j x xs (λ h. d (sym h ∙ e))))
  | inr m ↦ rw (changed_miss number n change x xs m) (elim (cases_eq (number x) j) [
    | inl e ↦ numbered_hit number j x (changed number n change xs) e ∙ sym (numbered_hit number j x xs e)
    | inr e ↦ numbered_miss number j x (changed number n change xs) e ∙ changed_other number n j change k d xs ∙ sym (numbered_miss number j x xs e)
  ])
]

-- What a put makes of each segment.

data_with_data : (v : ℕ) (s : PageState) (m : Bool) (o : Option SpacePages) → data_in (mapped (with_data v s m) o) ≡ change_slot (data_in o) v s m
data_with_data v s m None = refl
data_with_data v s m (Some x) = refl

stack_with_data : (v : ℕ) (s : PageState) (m : Bool) (o : Option SpacePages) → stack_in (mapped (with_data v s m) o) ≡ stack_in o
stack_with_data v s m None = refl
stack_with_data v s m (Some x) = refl

data_with_stack : (v : ℕ) (s : PageState) (m : Bool) (o : Option SpacePages) → data_in (mapped (with_stack v s m) o) ≡ data_in o
data_with_stack v s m None = refl
data_with_stack v s m (Some x) = refl

stack_with_stack : (v : ℕ) (s : PageState) (m : Bool) (o : Option SpacePages) → stack_in (mapped (with_stack v s m) o) ≡ change_slot (stack_in o) v s m
stack_with_stack v s m None = refl
stack_with_stack v s m (Some x) = refl

text_with_text : (v : ℕ) (s : PageState) (m : Bool) (o : Option TextPages) → text_in (mapped (with_text v s m) o) ≡ change_slot (text_in o) v s m
text_with_text v s m None = refl
text_with_text v s m (Some x) = refl

-- a put changes one page of its own segment, and no other segment
abbrev pub PutAt : List Slot → List Slot → Page → Page → PageState → Bool → Type 0
PutAt new old q r s m = (new ≡ old) ⊎ ((r ≡ beside q (number_of r)) × (new ≡ change_slot old (number_of q) s m))

put_at_data : (p : Placement) (sid v : ℕ) (s : PageState) (m : Bool) (r : Page) → PutAt (slots_of (put p (Data sid v) s m) r) (slots_of p r) (Data sid v) r s m
put_at_data p sid v s m (Data t w) = elim (cases_eq t sid) [
  | inl e ↦ inr (
    ap (λ (x : ℕ). Data x w) e,
    subst (λ (x : ℕ). data_in (numbered space_number x (changed space_number sid (with_data v s m) p.spaces)) ≡ change_slot (data_in (numbered space_number x p.spaces)) v s m) (sym e)
        (ap data_in (changed_same space_number sid (with_data v s m) (λ x. refl) p.spaces) ∙ data_with_data v s m (numbered space_number sid p.spaces)),
  )
  | inr n ↦ inl (ap data_in (changed_other space_number sid t (with_data v s m) (λ x. refl) n p.spaces))
]
put_at_data p sid v s m (Stack t w) = elim (cases_eq t sid) [
  | inl e ↦ inl (subst (λ (x : ℕ). stack_in (numbered space_number x (changed space_number sid (with_data v s m) p.spaces)) ≡ stack_in (numbered space_number x p.spaces)) (sym e)
      (ap stack_in (changed_same space_number sid (with_data v s m) (λ x. refl) p.spaces) ∙ stack_with_data v s m (numbered space_number sid p.spaces)))
  | inr n ↦ inl (ap stack_in (changed_other space_number sid t (with_data v s m) (λ x. refl) n p.spaces))
]
put_at_data p sid v s m (Text i w) = inl refl

put_at_stack : (p : Placement) (sid v : ℕ) (s : PageState) (m : Bool) (r : Page)
    → PutAt (slots_of (put p (Stack sid v) s m) r) (slots_of p r) (Stack sid v) r s m
put_at_stack p sid v s m (Stack t w) = elim (cases_eq t sid) [
  | inl e ↦ inr (
    ap (λ (x : ℕ). Stack x w) e,
    subst (λ (x : ℕ). stack_in (numbered space_number x (changed space_number sid (with_stack v s m) p.spaces)) ≡ change_slot (stack_in (numbered space_number x p.spaces)) v s m) (sym e)
        (ap stack_in (changed_same space_number sid (with_stack v s m) (λ x. refl) p.spaces) ∙ stack_with_stack v s m (numbered space_number sid p.spaces)),
  )
  | inr n ↦ inl (ap stack_in (changed_other space_number sid t (with_stack v s m) (λ x. refl) n p.spaces))
]
put_at_stack p sid v s m (Data t w) = elim (cases_eq t sid) [
  | inl e ↦ inl (subst (λ (x : ℕ). data_in (numbered space_number x (changed space_number sid (with_stack v s m) p.spaces)) ≡ data_in (numbered space_number x p.spaces)) (sym e)
      (ap data_in (changed_same space_number sid (with_stack v s m) (λ x. refl) p.spaces) ∙ data_with_stack v s m (numbered space_number sid p.spaces)))
  | inr n ↦ inl (ap data_in (changed_other space_number sid t (with_stack v s m) (λ x. refl) n p.spaces))
]
put_at_stack p sid v s m (Text i w) = inl refl

put_at_text : (p : Placement) (image v : ℕ) (s : PageState) (m : Bool) (r : Page)
    → PutAt (slots_of (put p (Text image v) s m) r) (slots_of p r) (Text image v) r s m
put_at_text p image v s m (Text t w) = elim (cases_eq t image) [
  | inl e ↦ inr (
    ap (λ (x : ℕ). Text x w) e,
    subst (λ (x : ℕ). text_in (numbered image_number x (changed image_number image (with_text v s m) p.texts)) ≡ change_slot (text_in (numbered image_number x p.texts)) v s m) (sym e)
        (ap text_in (changed_same image_number image (with_text v s m) (λ x. refl) p.texts) ∙ text_with_text v s m (numbered image_number image p.texts)),
  )
  | inr n ↦ inl (ap text_in (changed_other image_number image t (with_text v s m) (λ x. refl) n p.texts))
]
put_at_text p image v s m _ = inl refl

pub put_at : (p : Placement) (q : Page) (s : PageState) (m : Bool) (r : Page) → PutAt (slots_of (put p q s m) r) (slots_of p r) q r s m
put_at p (Data sid v) s m r = put_at_data p sid v s m r
put_at p (Stack sid v) s m r = put_at_stack p sid v s m r
put_at p (Text image v) s m r = put_at_text p image v s m r

pub beside_self : (q : Page) → beside q (number_of q) ≡ q
beside_self (Data a v) = refl
beside_self _ = refl

slots_put : (p : Placement) (q : Page) (s : PageState) (m : Bool) → slots_of (put p q s m) q ≡ change_slot (slots_of p q) (number_of q) s m
slots_put p (Data sid v) s m = ap data_in (changed_same space_number sid (with_data v s m) (λ x. refl) p.spaces) ∙ data_with_data v s m (numbered space_number sid p.spaces)
slots_put p (Stack sid v) s m = ap stack_in (changed_same space_number sid (with_stack v s m) (λ x. refl) p.spaces) ∙ stack_with_stack v s m (numbered space_number sid p.spaces)
slots_put p (Text image v) s m = ap text_in (changed_same image_number image (with_text v s m) (λ x. refl) p.texts) ∙ text_with_text v s m (numbered image_number image p.texts)

module _ (p : Placement) (q : Page) (s : PageState) (m : Bool) where
  pub put_same : IsThere p q → slot_of (put p q s m) q ≡ record { state = s; mark = m; filling = filling_behind s (slot_of p q).filling }
  put_same l = ap (λ (xs : List Slot). get_or xs (number_of q) no_slot) (slots_put p q s m) ∙ change_same (slots_of p q) (number_of q) s m l

  pub put_state : IsThere p q → state_of (put p q s m) q ≡ s
  put_state l = ap (λ (x : Slot). x.state) (put_same l)

  pub put_mark : IsThere p q → mark_of (put p q s m) q ≡ m
  put_mark l = ap (λ (x : Slot). x.mark) (put_same l)

  pub put_other : (r : Page) → r ≢ q → slot_of (put p q s m) r ≡ slot_of p r
  put_other r n = elim (put_at p q s m r) [
    | inl e ↦ ap (λ (xs : List Slot). get_or xs (number_of r) no_slot) e
    | inr e ↦ ap (λ (xs : List Slot). get_or xs (number_of r) no_slot) e.1 ∙ change_other (slots_of p r) (number_of q) (number_of r) s m (λ k. n (e.0 ∙ ap (beside q) k ∙ beside_self q))
  ]

  pub put_length : (r : Page) → length (slots_of (put p q s m) r) ≡ length (slots_of p r)
  put_length r = elim (put_at p q s m r) [
    | inl e ↦ ap length e
    | inr e ↦ ap length e.1 ∙ length_change (slots_of p r) (number_of q) s m
  ]

-- a put keeps the images of spaces

pub sharers_changed : (sid i : ℕ) (change : SpacePages → SpacePages) → ((x : SpacePages) → (change x).image ≡ x.image) → (xs : List SpacePages)
    → sharers_in i (changed space_number sid change xs) ≡ sharers_in i xs
sharers_changed sid i change k [] = refl
sharers_changed sid i change k (x ∷ xs) = elim (cases_eq (space_number x) sid) [
  | inl e ↦ rw (changed_hit space_number sid change x xs e) (ap (λ (n : ℕ). cond (n == i) 1 0 + sharers_in i xs) (k x))
  | inr d ↦ rw (changed_miss space_number sid change x xs d) (ap (λ (n : ℕ). cond (x.image == i) 1 0 + n) (sharers_changed sid i change k xs))
]

pub put_sharers : (p : Placement) (q : Page) (s : PageState) (m : Bool) (i : ℕ) → sharers (put p q s m) i ≡ sharers p i
put_sharers p (Data sid v) s m i = sharers_changed sid i (with_data v s m) (λ x. refl) p.spaces
put_sharers p (Stack sid v) s m i = sharers_changed sid i (with_stack v s m) (λ x. refl) p.spaces
put_sharers p (Text image v) s m i = refl
