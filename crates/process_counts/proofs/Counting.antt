-- Counts by number, where a table grows and something is added.
use Rattle.std.proofs.Common.{◌≡◌, ℕ, ◌+◌, ◌<◌, ◌≤◌, ◌^◌, List, length, take, get_or, set, sym, ap, ◌∙◌, subst, inl, inr, arith, get_or-set_same, get_or-set_other}
use Rattle.std.specs.List.{sum_by}
use Rattle.std.proofs.lemmas.Bool.{cases_lt, cases_eq}
use Rattle.std.proofs.lemmas.Bool.Decides.{nat_tests}
use Rattle.std.proofs.lemmas.List.{get_or_past}
use Rattle.std.proofs.lemmas.List.Sums.{sum_by_more}
use Rattle.process_counts.specs.Tables.{count_at, added_at}

-- a table that is filled up with noughts has the same counts
pub room_same : (old new : List ℕ) (n : ℕ) → length new ≡ n → length old ≤ n
    → ((k d : ℕ) → k < n → k < length old → get_or new k d ≡ get_or old k d)
    → ((k d : ℕ) → length old ≤ k → k < n → get_or new k d ≡ 0)
    → (k : ℕ) → count_at new k ≡ count_at old k
room_same old new n long grows kept filled k = elim (cases_lt k (length old)) [
  | inl low ↦ kept k 0 (omega (arith, low, grows)) low
  | inr high ↦ elim (cases_lt k n) [
    | inl within ↦ filled k 0 high within ∙ sym (get_or_past old k 0 high)
    | inr behind ↦ get_or_past new k 0 (omega (arith, long, behind)) ∙ sym (get_or_past old k 0 high)
  ]
]

-- one count of a table is written anew
pub added : (old room : List ℕ) (at amount n : ℕ) → ((k : ℕ) → count_at room k ≡ count_at old k) → at < length room → n ≡ count_at room at + amount
    → (k : ℕ) → count_at (set room at n) k ≡ count_at old k + added_at at amount k
added old room at amount n same low is k = elim (cases_eq at k) [
  | inl e ↦ subst (λ (j : ℕ). count_at (set room at n) j ≡ count_at old j + added_at at amount j) e
      (get_or-set_same room at n 0 low ∙ is ∙ (let s = same at in let z : added_at at amount at ≡ amount = grind (arith, nat_tests) in omega (arith, s, z)))
  | inr ne ↦
      let z : added_at at amount k ≡ 0 = grind (arith, nat_tests) in
      let other : count_at (set room at n) k ≡ count_at room k = get_or-set_other room at k n 0 (λ e. ne (sym e)) in
      omega (arith, other, same k, z)
]

-- nothing is added
pub none_added : (old : List ℕ) (at amount k : ℕ) → amount ≡ 0 → count_at old k ≡ count_at old k + added_at at amount k
none_added old at amount k e = elim (cases_eq at k) [
  | inl same ↦ let z : added_at at amount k ≡ amount = grind (arith, nat_tests) in omega (arith, z, e)
  | inr ne ↦ let z : added_at at amount k ≡ 0 = grind (arith, nat_tests) in omega (arith, z)
]

-- what is added is small
pub grown : (old new : List ℕ) (at amount : ℕ) → amount < 2 ^ 64 → ((k : ℕ) → count_at new k ≡ count_at old k + added_at at amount k)
    → (k : ℕ) → count_at new k < count_at old k + 2 ^ 64
grown old new at amount small more k = elim (cases_eq at k) [
  | inl same ↦ let z : added_at at amount k ≡ amount = grind (arith, nat_tests) in let m = more k in omega (arith, z, m, small)
  | inr ne ↦ let z : added_at at amount k ≡ 0 = grind (arith, nat_tests) in let m = more k in omega (arith, z, m)
]

-- what an entry says of its process is added
pub more_of : (new old p p' n n' k : ℕ) → new ≡ old + added_at p n k → p ≡ p' → n ≡ n' → new ≡ old + added_at p' n' k
more_of new old p p' n n' k h e f = h ∙ ap (λ (q : ℕ). old + added_at q n k) e ∙ ap (λ (m : ℕ). old + added_at p' m k) f

-- one more entry
pub sum_then : {A : Type 0} (f : A → ℕ) (xs : List A) (i : ℕ) (x : A) (old new : ℕ) → i < length xs → x ≡ get_or xs i x
    → old ≡ sum_by f (take i xs) → new ≡ old + f x → new ≡ sum_by f (take (i + 1) xs)
sum_then f xs i x old new lt is so_far now =
    step old new (sum_by f (take i xs)) (f x) (f (get_or xs i x)) (sum_by f (take (i + 1) xs)) so_far now (ap f is) (sum_by_more f xs i x lt)
  where
    step : (o n a b d t : ℕ) → o ≡ a → n ≡ o + b → b ≡ d → t ≡ a + d → n ≡ t
    step o n a b d t e f g h = omega (arith, e, f, g, h)
