-- Numbers in a row, and how often those of one list stand in another.
use Rattle.std.proofs.Common.{◌≡◌, ℕ, zero, suc, ◌+◌, ◌<◌, ◌≤◌, List, [], ◌∷◌, length, Some, refl, sym, ap, ◌∙◌, subst, inl, inr, arith}
use Rattle.std.specs.Prelude.{slice_get}
use Rattle.std.proofs.lemmas.Bool.{cases_eq}
use Rattle.std.proofs.lemmas.Option.{same_Some}
use Rattle.vm_facts.specs.Lists.{times}
use Rattle.vm_facts.proofs.Lists.{times_head, times_other}
use Rattle.page_model.specs.Frames.{count_up}

-- Numbers that rise from one on.

pub row_above : (f a n : ℕ) → a + n ≤ f → times f (count_up a n) ≡ 0
row_above f a zero l = refl
row_above f a (suc n) l = times_other f a (count_up (a + 1) n) (λ e. absurd (omega arith)) ∙ row_above f (a + 1) n (omega arith)

pub row_length : (a n : ℕ) → length (count_up a n) ≡ n
row_length a zero = refl
row_length a (suc n) = ap suc (row_length (a + 1) n)

-- How often the numbers of one list stand in another.

abbrev pub occurrences : List ℕ → List ℕ → ℕ
occurrences [] xs = 0
occurrences (f ∷ fs) xs = times f xs + occurrences fs xs

none_occurs : (fs : List ℕ) → occurrences fs [] ≡ 0
none_occurs [] = refl
none_occurs (f ∷ fs) = let e = none_occurs fs in omega (arith, e)

both_heads : (x f : ℕ) (fs xs : List ℕ) → times f (x ∷ xs) + times x fs ≡ times x (f ∷ fs) + times f xs
both_heads x f fs xs = elim (cases_eq x f) [
  | inl e ↦
      let a : times f (x ∷ xs) ≡ suc (times f xs) = subst (λ (y : ℕ). times f (y ∷ xs) ≡ suc (times f xs)) (sym e) (let h = times_head f xs in omega (arith, h)) in
      let b : times x (f ∷ fs) ≡ suc (times x fs) = subst (λ (y : ℕ). times x (y ∷ fs) ≡ suc (times x fs)) e (let h = times_head x fs in omega (arith, h)) in
      omega (arith, a, b)
  | inr ne ↦
      let a : times f (x ∷ xs) ≡ times f xs = times_other f x xs ne in
      let b : times x (f ∷ fs) ≡ times x fs = times_other x f fs (λ e. ne (sym e)) in
      omega (arith, a, b)
]

one_more : (fs : List ℕ) (x : ℕ) (xs : List ℕ) → occurrences fs (x ∷ xs) ≡ times x fs + occurrences fs xs
one_more [] x xs = refl
one_more (f ∷ fs) x xs = let more = one_more fs x xs in let heads = both_heads x f fs xs in omega (arith, more, heads)

-- where each number of one list stands once in another, those of the other stand in the one as often as it is long
pub each_once : (fs xs : List ℕ) → ((x : ℕ) → 0 < times x xs → times x fs ≡ 1) → occurrences fs xs ≡ length xs
each_once fs [] once = none_occurs fs
each_once fs (x ∷ xs) once =
    let more = one_more fs x xs in
    let here : times x fs ≡ 1 = once x (let h = times_head x xs in omega (arith, h)) in
    let rest : occurrences fs xs ≡ length xs = each_once fs xs (λ y l. once y (behind y l)) in
    omega (arith, more, here, rest)
  where
    behind : (y : ℕ) → 0 < times y xs → 0 < times y (x ∷ xs)
    behind y l = elim (cases_eq x y) [
      | inl e ↦ subst (λ (z : ℕ). 0 < times y (z ∷ xs)) (sym e) (let h = times_head y xs in omega (arith, h))
      | inr ne ↦ subst (λ (k : ℕ). 0 < k) (sym (times_other y x xs ne)) l
    ]

-- Places.

pub stands : (xs : List ℕ) (i f : ℕ) → slice_get xs i ≡ Some f → 0 < times f xs
stands [] i f e = absurd cc
stands (x ∷ xs) zero f e = subst (λ (z : ℕ). 0 < times f (z ∷ xs)) (sym (same_Some x f e)) (let h = times_head f xs in omega (arith, h))
stands (x ∷ xs) (suc i) f e = let later = stands xs i f e in elim (cases_eq x f) [
  | inl same ↦ subst (λ (z : ℕ). 0 < times f (z ∷ xs)) (sym same) (let h = times_head f xs in omega (arith, h))
  | inr ne ↦ subst (λ (k : ℕ). 0 < k) (sym (times_other f x xs ne)) later
]

head_and : (x f : ℕ) (xs : List ℕ) → x ≡ f → 0 < times f xs → times f (x ∷ xs) ≤ 1 → ⊥
head_and x f xs e later few =
    let twice : times f (f ∷ xs) ≤ 1 = subst (λ (z : ℕ). times f (z ∷ xs) ≤ 1) e few in
    let h = times_head f xs in
    omega (arith, h, later, twice)

tail_few : (x f : ℕ) (xs : List ℕ) → times f (x ∷ xs) ≤ 1 → times f xs ≤ 1
tail_few x f xs few = elim (cases_eq x f) [
  | inl e ↦ let twice : times f (f ∷ xs) ≤ 1 = subst (λ (z : ℕ). times f (z ∷ xs) ≤ 1) e few in let h = times_head f xs in omega (arith, h, twice)
  | inr ne ↦ subst (λ (k : ℕ). k ≤ 1) (times_other f x xs ne) few
]

-- a number that stands once has one place
pub same_place : (xs : List ℕ) (i j f : ℕ) → times f xs ≤ 1 → slice_get xs i ≡ Some f → slice_get xs j ≡ Some f → i ≡ j
same_place [] i j f few a b = absurd cc
same_place (x ∷ xs) zero zero f few a b = refl
same_place (x ∷ xs) zero (suc j) f few a b = absurd (head_and x f xs (same_Some x f a) (stands xs j f b) few)
same_place (x ∷ xs) (suc i) zero f few a b = absurd (head_and x f xs (same_Some x f b) (stands xs i f a) few)
same_place (x ∷ xs) (suc i) (suc j) f few a b = ap suc (same_place xs i j f (tail_few x f xs few) a b)
