-- How many pages of a cache pass a test, and what a page that leaves takes away.
use Rattle.std.proofs.Common.{◌≡◌, ℕ, ◌+◌, ◌≤◌, Bool, true, false, cond, List, [], ◌∷◌, length, refl, sym, ap, arith, inl, inr, ◌⊎◌}
use Rattle.std.specs.Prelude.{◌==◌, ◌||◌}
use Rattle.std.proofs.lemmas.Bool.{cases_eq, cases_Bool, eq-eqb, ne_eqb, eqb-true, false≢true, or_cases, or_left, or_right, or_parts}
use Rattle.page_opt.specs.Plans.{has}
use Rattle.vm_facts.specs.Lists.{without_first}
use Rattle.page_opt.specs.Cache.{bit, tally, count_in}

-- how many pages of the cache are among some references
abbrev pub count : List ℕ → List ℕ → ℕ
count xs = tally (λ q. has q xs)

pub bit_le : (b : Bool) → bit b ≤ 1
bit_le true = omega arith
bit_le false = omega arith

pub tally_le : (f : ℕ → Bool) (qs : List ℕ) → tally f qs ≤ length qs
tally_le f [] = omega arith
tally_le f (q ∷ qs) = omega (arith, tally_le f qs, bit_le (f q))

pub tally_all : (f : ℕ → Bool) (qs : List ℕ) → ((q : ℕ) → has q qs ≡ true → f q ≡ true) → tally f qs ≡ length qs
unfolding has
tally_all f [] all = refl
tally_all f (q ∷ qs) all =
    let here : f q ≡ true = all q (or_left (q == q) (has q qs) (eq-eqb q q refl)) in
    let rest = tally_all f qs (λ r h. all r (or_right (q == r) (has r qs) h)) in
    let one = ap bit here in
    omega arith

pub has_times : (p : ℕ) (qs : List ℕ) → has p qs ≡ true → 1 ≤ count_in p qs
unfolding has
has_times p [] h = absurd (false≢true h)
has_times p (q ∷ qs) h = elim (or_cases (q == p) (has p qs) h) [
  | inl here ↦ let one = ap bit here in omega arith
  | inr later ↦ let more = has_times p qs later in omega arith
]

pub hasnt_times : (p : ℕ) (qs : List ℕ) → has p qs ≡ false → count_in p qs ≡ 0
unfolding has
hasnt_times p [] h = refl
hasnt_times p (q ∷ qs) h =
    let parts = or_parts (q == p) (has p qs) h in
    let none = ap bit parts.0 in
    let rest = hasnt_times p qs parts.1 in
    omega arith

pub times_has : (p : ℕ) (qs : List ℕ) → 1 ≤ count_in p qs → has p qs ≡ true
times_has p qs some = elim (cases_Bool (has p qs)) [
  | inl there ↦ there
  | inr away ↦ absurd (let none = hasnt_times p qs away in omega arith)
]

pub times_hasnt : (p : ℕ) (qs : List ℕ) → count_in p qs ≡ 0 → has p qs ≡ false
times_hasnt p qs none = elim (cases_Bool (has p qs)) [
  | inl there ↦ absurd (let some = has_times p qs there in omega arith)
  | inr away ↦ away
]

-- what passes, without_first a page that is there
pub tally-without : (f : ℕ → Bool) (v : ℕ) (qs : List ℕ) → has v qs ≡ true → bit (f v) + tally f (without_first v qs) ≡ tally f qs
unfolding has without_first
tally-without f v [] h = absurd (false≢true h)
tally-without f v (q ∷ qs) h = elim (cases_eq q v) [
  | inl same ↦
      let first = ap (λ (b : Bool). tally f (cond b qs (q ∷ without_first v qs))) (eq-eqb q v same) in
      let moved = ap (λ (r : ℕ). bit (f r)) same in
      omega arith
  | inr other ↦
      let skip = ap (λ (b : Bool). tally f (cond b qs (q ∷ without_first v qs))) (ne_eqb q v other) in
      let rest = tally-without f v qs (later other (or_cases (q == v) (has v qs) h)) in
      omega arith
]
  where
    later : (q ≡ v → ⊥) → ((q == v) ≡ true) ⊎ (has v qs ≡ true) → has v qs ≡ true
    later other (inl same) = absurd (other (eqb-true q v same))
    later other (inr there) = there

pub length-without : (v : ℕ) (qs : List ℕ) → has v qs ≡ true → 1 + length (without_first v qs) ≡ length qs
length-without v qs h =
    let all = tally-without (λ q. true) v qs h in
    let one = lengths qs in
    let two = lengths (without_first v qs) in
    omega arith
  where
    lengths : (rs : List ℕ) → tally (λ q. true) rs ≡ length rs
    lengths [] = refl
    lengths (r ∷ rs) = let rest = lengths rs in omega arith

-- the pages among some references, one more before them
pub count_more : (p : ℕ) (xs qs : List ℕ) → count (p ∷ xs) qs ≡ count xs qs + cond (has p xs) 0 (count_in p qs)
unfolding has
count_more p xs [] = at (has p xs)
  where
    at : (b : Bool) → ◌≡◌ {A = ℕ} 0 (0 + cond b 0 0)
    at true = refl
    at false = refl
count_more p xs (q ∷ qs) =
    let rest = count_more p xs qs in
    let first = one q in
    let sums = add (has p xs) (bit (q == p)) (count_in p qs) in
    omega arith
  where
    add : (b : Bool) (m n : ℕ) → cond b 0 (m + n) ≡ cond b 0 m + cond b 0 n
    add true m n = refl
    add false m n = refl

    here : (b : Bool) → ◌≡◌ {A = ℕ} 1 (bit b + cond b 0 1)
    here true = refl
    here false = refl

    zeros : (b : Bool) → ◌≡◌ {A = ℕ} (cond b 0 0) 0
    zeros true = refl
    zeros false = refl

    one : (q : ℕ) → bit ((p == q) || has q xs) ≡ bit (has q xs) + cond (has p xs) 0 (bit (q == p))
    one q = elim (cases_eq p q) [
      | inl same ↦
          let left = ap (λ (b : Bool). bit (b || has q xs)) (eq-eqb p q same) in
          let right = ap (λ (b : Bool). cond (has p xs) 0 (bit b)) (eq-eqb q p (sym same)) in
          let there = ap (λ (r : ℕ). bit (has r xs)) same in
          let both = here (has p xs) in
          omega arith
      | inr other ↦
          let left = ap (λ (b : Bool). bit (b || has q xs)) (ne_eqb p q other) in
          let right = ap (λ (b : Bool). cond (has p xs) 0 (bit b)) (ne_eqb q p (λ e. other (sym e))) in
          let none = zeros (has p xs) in
          omega arith
    ]
