-- A page takes its place in each space that has it, and no other page's place changes.
use Rattle.std.proofs.Common.{◌≡◌, ◌≢◌, inl, inr, ℕ, zero, suc, List, [], ◌∷◌, length, map, set, Option, Some, None, slice_get, refl, sym, ap, ◌∙◌, arith}
use Rattle.std.proofs.lemmas.Bool.{cases_eq}
use Rattle.std.proofs.lemmas.Bool.Decides.{nat_tests}
use Rattle.std.proofs.lemmas.List.{length-set}
use Rattle.vm_facts.specs.declared.page.Page.{Page}
use Rattle.vm_facts.specs.declared.page.Page.TheVariants.{Data, Stack, Text}
use Rattle.vax_pte.specs.declared.Place.{Place}
use Rattle.space_map.specs.Space.{Places, place_in, with_place}
use Rattle.kernel_tables.specs.Shown.{or_else, entry_in, placed_by, placed}

-- Lists.

get_set_same : {A : Type 0} (xs : List A) (v : ℕ) (x y : A) → slice_get xs v ≡ Some y → slice_get (set xs v x) v ≡ Some x
get_set_same [] v x y e = absurd cc
get_set_same (z ∷ xs) zero x y e = refl
get_set_same (z ∷ xs) (suc v) x y e = get_set_same xs v x y e

get_set_other : {A : Type 0} (xs : List A) (v w : ℕ) (x : A) → w ≢ v → slice_get (set xs v x) w ≡ slice_get xs w
get_set_other [] v w x n = refl
get_set_other (z ∷ xs) zero zero x n = absurd (n refl)
get_set_other (z ∷ xs) zero (suc w) x n = refl
get_set_other (z ∷ xs) (suc v) zero x n = refl
get_set_other (z ∷ xs) (suc v) (suc w) x n = get_set_other xs v w x (λ e. n (ap suc e))

-- One space.

pub data_hit : (s : Places) (sid v : ℕ) → sid ≡ s.sid → place_in s (Data sid v) ≡ slice_get s.data v
data_hit s sid v e = grind (arith, nat_tests)

pub data_miss : (s : Places) (sid v : ℕ) → sid ≢ s.sid → place_in s (Data sid v) ≡ None
data_miss s sid v e = grind (arith, nat_tests)

pub stack_hit : (s : Places) (sid v : ℕ) → sid ≡ s.sid → place_in s (Stack sid v) ≡ slice_get s.stack v
stack_hit s sid v e = grind (arith, nat_tests)

pub stack_miss : (s : Places) (sid v : ℕ) → sid ≢ s.sid → place_in s (Stack sid v) ≡ None
stack_miss s sid v e = grind (arith, nat_tests)

pub text_hit : (s : Places) (image v : ℕ) → image ≡ s.image → place_in s (Text image v) ≡ slice_get s.text v
text_hit s image v e = grind (arith, nat_tests)

pub text_miss : (s : Places) (image v : ℕ) → image ≢ s.image → place_in s (Text image v) ≡ None
text_miss s image v e = grind (arith, nat_tests)

with_same : (s : Places) (q : Page) (place was : Place) → place_in s q ≡ Some was → place_in (with_place s q place) q ≡ Some place
with_same s (Data sid v) place was h = elim (cases_eq sid s.sid) [
  | inl e ↦ data_hit (with_place s (Data sid v) place) sid v e ∙ get_set_same s.data v place was (sym (data_hit s sid v e) ∙ h)
  | inr n ↦ absurd (let k = sym (data_miss s sid v n) ∙ h in cc)
]
with_same s (Stack sid v) place was h = elim (cases_eq sid s.sid) [
  | inl e ↦ stack_hit (with_place s (Stack sid v) place) sid v e ∙ get_set_same s.stack v place was (sym (stack_hit s sid v e) ∙ h)
  | inr n ↦ absurd (let k = sym (stack_miss s sid v n) ∙ h in cc)
]
with_same s (Text image v) place was h = elim (cases_eq image s.image) [
  | inl e ↦ text_hit (with_place s (Text image v) place) image v e ∙ get_set_same s.text v place was (sym (text_hit s image v e) ∙ h)
  | inr n ↦ absurd (let k = sym (text_miss s image v n) ∙ h in cc)
]

with_other : (s : Places) (q r : Page) (place was : Place) → place_in s q ≡ Some was → r ≢ q → place_in (with_place s q place) r ≡ place_in s r
with_other s (Data sid v) (Data t w) place was h n = elim (cases_eq t s.sid) [
  | inl e ↦ elim (cases_eq sid s.sid) [
    | inl k ↦ data_hit (with_place s (Data sid v) place) t w e ∙ get_set_other s.data v w place (λ m. n (ap (λ (x : ℕ). Data x w) (e ∙ sym k) ∙ ap (λ (x : ℕ). Data sid x) m)) ∙ sym (data_hit s t w e)
    | inr m ↦ absurd (let k = sym (data_miss s sid v m) ∙ h in cc)
  ]
  | inr m ↦ data_miss (with_place s (Data sid v) place) t w m ∙ sym (data_miss s t w m)
]
with_other s (Stack sid v) (Stack t w) place was h n = elim (cases_eq t s.sid) [
  | inl e ↦ elim (cases_eq sid s.sid) [
    | inl k ↦ stack_hit (with_place s (Stack sid v) place) t w e ∙ get_set_other s.stack v w place (λ m. n (ap (λ (x : ℕ). Stack x w) (e ∙ sym k) ∙ ap (λ (x : ℕ). Stack sid x) m))
        ∙ sym (stack_hit s t w e)
    | inr m ↦ absurd (let k = sym (stack_miss s sid v m) ∙ h in cc)
  ]
  | inr m ↦ stack_miss (with_place s (Stack sid v) place) t w m ∙ sym (stack_miss s t w m)
]
with_other s (Text image v) (Text t w) place was h n = elim (cases_eq t s.image) [
  | inl e ↦ elim (cases_eq image s.image) [
    | inl k ↦ text_hit (with_place s (Text image v) place) t w e ∙ get_set_other s.text v w place (λ m. n (ap (λ (x : ℕ). Text x w) (e ∙ sym k) ∙ ap (λ (x : ℕ). Text image x) m))
        ∙ sym (text_hit s t w e)
    | inr m ↦ absurd (let k = sym (text_miss s image v m) ∙ h in cc)
  ]
  | inr m ↦ text_miss (with_place s (Text image v) place) t w m ∙ sym (text_miss s t w m)
]
with_other s _ (Text t w) place was h n = refl
with_other s _ (Data t w) place was h n = refl
with_other s _ (Stack t w) place was h n = refl

pub placed_same : (s : Places) (q : Page) (place was : Place) → place_in s q ≡ Some was → place_in (placed q place s) q ≡ Some place
placed_same s q place was h = ap (λ (o : Option Place). place_in (placed_by o q place s) q) h ∙ with_same s q place was h

pub placed_none : (s : Places) (q : Page) (place : Place) → place_in s q ≡ None → placed q place s ≡ s
placed_none s q place h = ap (λ (o : Option Place). placed_by o q place s) h

pub placed_other : (s : Places) (q r : Page) (place : Place) → r ≢ q → place_in (placed q place s) r ≡ place_in s r
placed_other s q r place n = go (place_in s q) refl
  where
    go : (o : Option Place) → place_in s q ≡ o → place_in (placed q place s) r ≡ place_in s r
    go None e = ap (λ (x : Places). place_in x r) (placed_none s q place e)
    go (Some was) e = ap (λ (x : Option Place). place_in (placed_by x q place s) r) e ∙ with_other s q r place was e n

-- All spaces.

pub entry_same : (ss : List Places) (q : Page) (place was : Place) → entry_in ss q ≡ Some was → entry_in (map (placed q place) ss) q ≡ Some place
entry_same [] q place was h = absurd cc
entry_same (s ∷ ss) q place was h = go (place_in s q) refl (λ k. entry_same ss q place was k)
  where
    go : (o : Option Place) → place_in s q ≡ o → (entry_in ss q ≡ Some was → entry_in (map (placed q place) ss) q ≡ Some place) → entry_in (map (placed q place) (s ∷ ss)) q ≡ Some place
    go None e rest = ap (λ (o : Option Place). or_else o (entry_in (map (placed q place) ss) q)) (ap (λ (x : Places). place_in x q) (placed_none s q place e) ∙ e)
        ∙ rest (sym (ap (λ (o : Option Place). or_else o (entry_in ss q)) e) ∙ h)
    go (Some x) e rest = ap (λ (o : Option Place). or_else o (entry_in (map (placed q place) ss) q)) (placed_same s q place x e)

pub entry_other : (ss : List Places) (q r : Page) (place : Place) → r ≢ q → entry_in (map (placed q place) ss) r ≡ entry_in ss r
entry_other [] q r place n = refl
entry_other (s ∷ ss) q r place n =
    ap (λ (o : Option Place). or_else o (entry_in (map (placed q place) ss) r)) (placed_other s q r place n)
    ∙ ap (or_else (place_in s r)) (entry_other ss q r place n)

pub entry_none : (ss : List Places) (q : Page) (place : Place) → entry_in ss q ≡ None → map (placed q place) ss ≡ ss
entry_none [] q place h = refl
entry_none (s ∷ ss) q place h = go (place_in s q) refl (λ k. entry_none ss q place k)
  where
    go : (o : Option Place) → place_in s q ≡ o → (entry_in ss q ≡ None → map (placed q place) ss ≡ ss) → map (placed q place) (s ∷ ss) ≡ s ∷ ss
    go None e rest =
        ap (λ (x : Places). x ∷ map (placed q place) ss) (placed_none s q place e)
        ∙ ap (λ (xs : List Places). s ∷ xs) (rest (sym (ap (λ (o : Option Place). or_else o (entry_in ss q)) e) ∙ h))
    go (Some x) e rest = absurd (let k = sym (ap (λ (o : Option Place). or_else o (entry_in ss q)) e) ∙ h in cc)

-- What a place leaves of a space.
pub record Head : Type 0 where
  pub sid : ℕ
  pub image : ℕ
  pub data_count : ℕ
  pub stack_count : ℕ

abbrev pub head_of : Places → Head
head_of s = record { sid = s.sid; image = s.image; data_count = length s.data; stack_count = length s.stack }

with_head : (s : Places) (q : Page) (place : Place) → head_of (with_place s q place) ≡ head_of s
with_head s (Data sid v) place = ap (λ (n : ℕ). let h : Head = record { sid = s.sid; image = s.image; data_count = n; stack_count = length s.stack } in h) (length-set s.data v place)
with_head s (Stack sid v) place = ap (λ (n : ℕ). let h : Head = record { sid = s.sid; image = s.image; data_count = length s.data; stack_count = n } in h) (length-set s.stack v place)
with_head s (Text image v) place = refl

placed_head : (s : Places) (q : Page) (place : Place) → head_of (placed q place s) ≡ head_of s
placed_head s q place = go (place_in s q)
  where
    go : (o : Option Place) → head_of (placed_by o q place s) ≡ head_of s
    go None = refl
    go (Some was) = with_head s q place

pub placed_heads : (ss : List Places) (q : Page) (place : Place) → map head_of (map (placed q place) ss) ≡ map head_of ss
placed_heads [] q place = refl
placed_heads (s ∷ ss) q place = ap (λ (h : Head). h ∷ map head_of (map (placed q place) ss)) (placed_head s q place) ∙ ap (λ (hs : List Head). head_of s ∷ hs) (placed_heads ss q place)
