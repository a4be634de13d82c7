-- One more item in a fold of what is left.
use Rattle.std.proofs.Common.{◌≡◌, ◌<◌, ◌≤◌, ◌+◌, ◌-◌, ℕ, suc, List, [], ◌∷◌, length, drop, get_or, sym, ap, ◌∙◌, arith}
use Rattle.std.specs.List.{sum_by}
use Rattle.std.proofs.lemmas.List.Sums.{sum_by-cons}
use Rattle.page_model.specs.Frames.{count_up}
use Rattle.std.proofs.lemmas.List.{at_drop_more, at_drop_all}

-- what a function gives of the items from one on
pub rest_more : {A B : Type 0} (f : List A → B) (xs : List A) (i : ℕ) (d : A) → i < length xs → f (drop i xs) ≡ f (get_or xs i d ∷ drop (i + 1) xs)
rest_more f xs i d lt = at_drop_more f xs i d lt

-- nothing is left
pub rest_none : {A B : Type 0} (f : List A → B) (xs : List A) (i : ℕ) → length xs ≤ i → f (drop i xs) ≡ f []
rest_none f xs i h = at_drop_all f xs i h

-- the numbers from one on, of which some are left
pub count_first : (f : ℕ → ℕ) (n : ℕ) → 0 + sum_by f (count_up (0 + 1) (n - 0)) ≡ sum_by f (count_up 1 n)
count_first f n =
    let e : n - 0 ≡ n = omega arith in
    let same : sum_by f (count_up 1 (n - 0)) ≡ sum_by f (count_up 1 n) = ap (λ (k : ℕ). sum_by f (count_up 1 k)) e in
    omega (arith, same)

pub count_next : (f : ℕ → ℕ) (i n so_far one whole : ℕ) → i < n → one ≡ f (i + 1)
    → so_far + sum_by f (count_up (i + 1) (n - i)) ≡ whole → so_far + one + sum_by f (count_up (i + 1 + 1) (n - (i + 1))) ≡ whole
count_next f i n so_far one whole h is left =
    let e : n - i ≡ suc (n - (i + 1)) = omega arith in
    let split : sum_by f (count_up (i + 1) (n - i)) ≡ f (i + 1) + sum_by f (count_up (i + 1 + 1) (n - (i + 1))) =
    ap (λ (k : ℕ). sum_by f (count_up (i + 1) k)) e ∙ sum_by-cons f (i + 1) (count_up (i + 1 + 1) (n - (i + 1))) in
    omega (arith, split, is, left)

pub count_done : (f : ℕ → ℕ) (i n so_far whole : ℕ) → n ≤ i → so_far + sum_by f (count_up (i + 1) (n - i)) ≡ whole → so_far ≡ whole
count_done f i n so_far whole h left =
    let e : n - i ≡ 0 = omega arith in
    let none : sum_by f (count_up (i + 1) (n - i)) ≡ 0 = ap (λ (k : ℕ). sum_by f (count_up (i + 1) k)) e in
    omega (arith, none, left)
