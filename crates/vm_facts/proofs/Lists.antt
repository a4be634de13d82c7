-- How often a number stands in a list, and a list without one number.
use Rattle.std.proofs.Common.{◌≡◌, ◌≢◌, ◌∙◌, ℕ, ◌+◌, ◌<◌, ◌≤◌, List, [], ◌∷◌, ◌++◌, length, length-set, set, take, drop, refl, sym, ap, inl, inr, arith, eqb}
use Rattle.std.proofs.lemmas.Bool.{cases_eq, cases_Bool}
use Rattle.std.proofs.lemmas.Bool.Decides.{nat_tests}
use Rattle.std.proofs.lemmas.List.{append_assoc, drop-set-lt, take-append-drop, take_more_set}
use Rattle.vm_facts.specs.Lists.{times, without, overwritten}

pub times-append : (n : ℕ) (xs ys : List ℕ) → times n (xs ++ ys) ≡ times n xs + times n ys
times-append n [] ys = grind arith
times-append n (x ∷ xs) ys = grind (arith, times-append n xs ys)

pub times_head : (n : ℕ) (xs : List ℕ) → times n (n ∷ xs) ≡ 1 + times n xs
times_head n xs = grind (arith, nat_tests)

pub times_other : (n x : ℕ) (xs : List ℕ) → x ≢ n → times n (x ∷ xs) ≡ times n xs
times_other n x xs ne = grind (arith, nat_tests)

pub without_absent : (n : ℕ) (xs : List ℕ) → times n xs ≡ 0 → without n xs ≡ xs
without_absent n [] h = refl
without_absent n (x ∷ xs) h = elim (cases_eq x n) [
  | inl e ↦ grind (arith, nat_tests)
  | inr ne ↦ grind (arith, nat_tests, without_absent n xs (grind (arith, nat_tests)))
]

pub without-append : (n : ℕ) (xs ys : List ℕ) → without n (xs ++ ys) ≡ without n xs ++ without n ys
without-append n [] ys = refl
without-append n (x ∷ xs) ys = elim (cases_Bool (eqb x n)) [
  | inl hit ↦ grind (arith, without-append n xs ys)
  | inr miss ↦ grind (arith, without-append n xs ys)
]

pub times-without_same : (n : ℕ) (xs : List ℕ) → times n (without n xs) ≡ 0
times-without_same n [] = refl
times-without_same n (x ∷ xs) = elim (cases_Bool (eqb x n)) [
  | inl hit ↦ grind (arith, times-without_same n xs)
  | inr miss ↦ grind (arith, times-without_same n xs)
]

pub times-without_other : (n m : ℕ) (xs : List ℕ) → m ≢ n → times m (without n xs) ≡ times m xs
times-without_other n m [] ne = refl
times-without_other n m (x ∷ xs) ne = elim (cases_Bool (eqb x n)) [
  | inl hit ↦ grind (arith, nat_tests, times-without_other n m xs ne)
  | inr miss ↦ grind (arith, nat_tests, times-without_other n m xs ne)
]

pub length-without : (n : ℕ) (xs : List ℕ) → length (without n xs) + times n xs ≡ length xs
length-without n [] = refl
length-without n (x ∷ xs) = elim (cases_Bool (eqb x n)) [
  | inl hit ↦ grind (arith, length-without n xs)
  | inr miss ↦ grind (arith, length-without n xs)
]

-- what stands before them, they, and what stands behind them
pub overwritten_is : (xs : List ℕ) (at : ℕ) (ys : List ℕ) → at + length ys ≤ length xs → take at xs ++ (ys ++ drop (at + length ys) xs) ≡ overwritten xs at ys
overwritten_is xs at [] fits = let none : at + 0 ≡ at = omega arith in ap (λ (n : ℕ). take at xs ++ drop n xs) none ∙ take-append-drop at xs
overwritten_is xs at (y ∷ ys) fits =
    let inside : at < length xs = omega (arith, fits) in
    let later : at + 1 + length ys ≤ length (set xs at y) = omega (arith, fits, length-set xs at y) in
    let end : at + 1 + length ys ≡ at + length (y ∷ ys) = omega arith in
    let behind : drop (at + 1 + length ys) (set xs at y) ≡ drop (at + length (y ∷ ys)) xs =
    drop-set-lt (at + 1 + length ys) xs at y (omega arith) ∙ ap (λ (n : ℕ). drop n xs) end in
    let before : take (at + 1) (set xs at y) ++ (ys ++ drop (at + length (y ∷ ys)) xs) ≡ take at xs ++ (y ∷ (ys ++ drop (at + length (y ∷ ys)) xs)) =
    ap (λ (zs : List ℕ). zs ++ (ys ++ drop (at + length (y ∷ ys)) xs)) (take_more_set xs at y inside)
    ∙ append_assoc (take at xs) (y ∷ []) (ys ++ drop (at + length (y ∷ ys)) xs) in
    sym before
    ∙ ap (λ (zs : List ℕ). take (at + 1) (set xs at y) ++ (ys ++ zs)) (sym behind)
    ∙ overwritten_is (set xs at y) (at + 1) ys later
