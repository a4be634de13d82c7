-- When a page is used next, and which page of a cache is used again last.
use Rattle.std.proofs.Common.{◌≡◌, ℕ, suc, ◌<◌, ◌≤◌, Bool, true, false, cond, nat_lt, nat_le, List, [], ◌∷◌, ◌++◌, length, get_or, Option, Some, None, refl, sym, ap, ◌∙◌, subst, arith, inl, inr, ◌⊎◌}
use Rattle.std.specs.Prelude.{◌==◌, ◌||◌, ◌&&◌}
use Rattle.std.proofs.lemmas.Bool.{cases_eq, cases_lt, eq-eqb, ne_eqb, eqb-true, ltb-true, ltb-false, leb-true, leb-false, false≢true, true≢false, or_cases, or_left, or_right, or_parts, and_parts, and_cases}
use Rattle.page_opt.specs.Plans.{has}
use Rattle.page_opt.specs.Furthest.{next_use, is_further, further, furthest}

pub next_le : (q : ℕ) (future : List ℕ) → next_use q future ≤ length future
unfolding next_use
next_le q [] = omega arith
next_le q (p ∷ ps) = go (p == q) (next_le q ps)
  where
    go : (b : Bool) → next_use q ps ≤ length ps → cond b 0 (suc (next_use q ps)) ≤ suc (length ps)
    go true l = omega arith
    go false l = omega arith

pub next_here : (p : ℕ) (future : List ℕ) → next_use p (p ∷ future) ≡ 0
unfolding next_use
next_here p future = ap (λ (b : Bool). cond b 0 (suc (next_use p future))) (eq-eqb p p refl)

pub next_other : (p q : ℕ) (future : List ℕ) → (p ≡ q → ⊥) → next_use q (p ∷ future) ≡ suc (next_use q future)
unfolding next_use
next_other p q future other = ap (λ (b : Bool). cond b 0 (suc (next_use q future))) (ne_eqb p q other)

-- the reference at the place of the next use is to the page
pub next_is : (q : ℕ) (future : List ℕ) → next_use q future < length future → get_or future (next_use q future) 0 ≡ q
next_is q [] h = absurd (omega arith)
next_is q (p ∷ ps) h = elim (cases_eq p q) [
  | inl same ↦
      ap (λ (k : ℕ). get_or (p ∷ ps) k 0) (ap (λ (r : ℕ). next_use r (p ∷ ps)) (sym same) ∙ next_here p ps) ∙ same
  | inr other ↦
      let e = next_other p q ps other in
      ap (λ (k : ℕ). get_or (p ∷ ps) k 0) e ∙ next_is q ps (omega arith)
]

-- two pages are not used next at the same place
pub next_apart : (q r : ℕ) (future : List ℕ) → next_use q future ≡ next_use r future → next_use q future < length future → q ≡ r
next_apart q r future same h =
    sym (next_is q future h) ∙ ap (λ (k : ℕ). get_or future k 0) same ∙ next_is r future (omega arith)

pub has_next : (q : ℕ) (xs ys : List ℕ) → has q xs ≡ true → next_use q (xs ++ ys) < length xs
unfolding has
has_next q [] ys h = absurd (false≢true h)
has_next q (p ∷ xs) ys h = elim (cases_eq p q) [
  | inl same ↦
      let e = ap (λ (r : ℕ). next_use r (p ∷ (xs ++ ys))) (sym same) ∙ next_here p (xs ++ ys) in
      omega arith
  | inr other ↦
      let e = next_other p q (xs ++ ys) other in
      let rest = has_next q xs ys (later other (or_cases (p == q) (has q xs) h)) in
      omega arith
]
  where
    later : (p ≡ q → ⊥) → ((p == q) ≡ true) ⊎ (has q xs ≡ true) → has q xs ≡ true
    later other (inl same) = absurd (other (eqb-true p q same))
    later other (inr there) = there

pub next_has : (q : ℕ) (xs ys : List ℕ) → next_use q (xs ++ ys) < length xs → has q xs ≡ true
unfolding has
next_has q [] ys h = absurd (omega arith)
next_has q (p ∷ xs) ys h = elim (cases_eq p q) [
  | inl same ↦ or_left (p == q) (has q xs) (eq-eqb p q same)
  | inr other ↦
      let e = next_other p q (xs ++ ys) other in
      or_right (p == q) (has q xs) (next_has q xs ys (omega arith))
]

-- ---- the furthest page of a cache

-- r leaves before q, or is q
abbrev pub Before : List ℕ → ℕ → ℕ → Type 0
Before future r q = (next_use q future < next_use r future) ⊎ ((next_use q future ≡ next_use r future) × (r ≤ q))

pub record IsFurthest (future cache : List ℕ) (victim : ℕ) : Type 0 where
  pub there : has victim cache ≡ true
  pub first : (q : ℕ) → has q cache ≡ true → Before future victim q

is_further_gives : (future : List ℕ) (p q : ℕ) → is_further future p q ≡ true → Before future p q
unfolding is_further
is_further_gives future p q h =
    elim (or_cases (nat_lt (next_use q future) (next_use p future)) ((next_use p future == next_use q future) && nat_le p q) h) [
      | inl later ↦ inl (ltb-true (next_use q future) (next_use p future) later)
      | inr both ↦
          let parts = and_parts (next_use p future == next_use q future) (nat_le p q) both in
          inr (sym (eqb-true (next_use p future) (next_use q future) parts.0), leb-true p q parts.1)
    ]

not_further_gives : (future : List ℕ) (p q : ℕ) → is_further future p q ≡ false → Before future q p
unfolding is_further
not_further_gives future p q h =
    let parts = or_parts (nat_lt (next_use q future) (next_use p future)) ((next_use p future == next_use q future) && nat_le p q) h in
    let least = ltb-false (next_use q future) (next_use p future) parts.0 in
    elim (and_cases (next_use p future == next_use q future) (nat_le p q) parts.1) [
      | inl apart ↦ go least (cases_eq (next_use p future) (next_use q future)) apart
      | inr above ↦ let l = leb-false p q above in elim (cases_lt (next_use p future) (next_use q future)) [
        | inl later ↦ inl later
        | inr same ↦ inr (omega arith, omega arith)
      ]
    ]
  where
    go : next_use p future ≤ next_use q future → (next_use p future ≡ next_use q future) ⊎ (next_use p future ≡ next_use q future → ⊥)
        → (next_use p future == next_use q future) ≡ false → Before future q p
    go least (inl same) apart = absurd (true≢false (sym (eq-eqb (next_use p future) (next_use q future) same) ∙ apart))
    go least (inr other) apart = inl (omega arith)

before_trans : (future : List ℕ) (p q r : ℕ) → Before future p q → Before future q r → Before future p r
before_trans future p q r (inl a) (inl b) = inl (omega arith)
before_trans future p q r (inl a) (inr b) = inl (let e = b.0 in omega arith)
before_trans future p q r (inr a) (inl b) = inl (let e = a.0 in omega arith)
before_trans future p q r (inr a) (inr b) = inr (b.0 ∙ a.0, let e = a.1 in let f = b.1 in omega arith)

before_self : (future : List ℕ) (p : ℕ) → Before future p p
before_self future p = inr (refl, omega arith)

before_same : (future : List ℕ) (p q : ℕ) → Before future p q → Before future q p → p ≡ q
before_same future p q (inl a) (inl b) = absurd (omega arith)
before_same future p q (inl a) (inr b) = absurd (let e = b.0 in omega arith)
before_same future p q (inr a) (inl b) = absurd (let e = a.0 in omega arith)
before_same future p q (inr a) (inr b) = let e = a.1 in let f = b.1 in omega arith

one_more : (future : List ℕ) (p : ℕ) (ps : List ℕ) (q : ℕ) → IsFurthest future ps q → IsFurthest future (p ∷ ps) (further future p (Some q))
unfolding further has
one_more future p ps q rest = go (is_further future p q) refl
  where
    all : (v : ℕ) → Before future v p → Before future v q → (r : ℕ) → ((p == r) || has r ps) ≡ true → Before future v r
    all v over_p over_q r h = elim (or_cases (p == r) (has r ps) h) [
      | inl here ↦ subst (λ (s : ℕ). Before future v s) (eqb-true p r here) over_p
      | inr later ↦ before_trans future v q r over_q (rest.first r later)
    ]

    go : (b : Bool) → is_further future p q ≡ b → IsFurthest future (p ∷ ps) (cond b p q)
    go true e = record {
      there = or_left (p == p) (has p ps) (eq-eqb p p refl);
      first = all p (before_self future p) (is_further_gives future p q e);
    }
    go false e = record {
      there = or_right (p == q) (has q ps) rest.there;
      first = all q (not_further_gives future p q e) (before_self future q);
    }

pub furthest_none : (future cache : List ℕ) → furthest future cache ≡ None → (q : ℕ) → has q cache ≡ true → ⊥
unfolding furthest has
furthest_none future [] e q h = false≢true h
furthest_none future (r ∷ rs) e q h = cc

pub furthest_gives : (future cache : List ℕ) (v : ℕ) → furthest future cache ≡ Some v → IsFurthest future cache v
unfolding furthest further has
furthest_gives future [] v e = cc
furthest_gives future (p ∷ ps) v e = go (furthest future ps) refl e (λ q h. furthest_gives future ps q h)
  where
    go : (o : Option ℕ) → furthest future ps ≡ o → Some (further future p o) ≡ Some v → ((q : ℕ) → furthest future ps ≡ Some q → IsFurthest future ps q) → IsFurthest future (p ∷ ps) v
    go None f e rest =
        let same : p ≡ v = cc in
        subst (λ (w : ℕ). IsFurthest future (p ∷ ps) w) same (record {
          there = or_left (p == p) (has p ps) (eq-eqb p p refl);
          first = λ q h. elim (or_cases (p == q) (has q ps) h) [
            | inl here ↦ subst (λ (s : ℕ). Before future p s) (eqb-true p q here) (before_self future p)
            | inr later ↦ absurd (furthest_none future ps f q later)
          ];
        })
    go (Some q) f e rest =
        let same : further future p (Some q) ≡ v = cc in
        subst (λ (w : ℕ). IsFurthest future (p ∷ ps) w) same (one_more future p ps q (rest q f))

pub furthest_is : (future cache : List ℕ) (v : ℕ) → IsFurthest future cache v → furthest future cache ≡ Some v
furthest_is future cache v f = go (furthest future cache) refl
  where
    go : (o : Option ℕ) → furthest future cache ≡ o → furthest future cache ≡ Some v
    go None e = absurd (furthest_none future cache e v f.there)
    go (Some w) e =
        let best = furthest_gives future cache w e in
        e ∙ ap (λ (u : ℕ). Some u) (before_same future w v (best.first v f.there) (f.first w best.there))

-- where some references to come have the victim, they have each page of the cache
pub furthest_last : (cache xs ys : List ℕ) (v : ℕ) → IsFurthest (xs ++ ys) cache v → has v xs ≡ true → (q : ℕ) → has q cache ≡ true → has q xs ≡ true
furthest_last cache xs ys v f there q h = go (f.first q h) (has_next v xs ys there)
  where
    go : Before (xs ++ ys) v q → next_use v (xs ++ ys) < length xs → has q xs ≡ true
    go (inl a) l = next_has q xs ys (omega arith)
    go (inr a) l = next_has q xs ys (let e = a.0 in omega arith)
