-- Which pages a cache has after one more entered or one left.
use Rattle.std.proofs.Common.{◌≡◌, ℕ, ◌≤◌, Bool, true, false, not, List, ◌∷◌, sym, ap, ◌∙◌, arith, inl, inr}
use Rattle.std.specs.Prelude.{◌==◌, ◌||◌, ◌&&◌}
use Rattle.std.proofs.Math.Bool.{and-true, and-false}
use Rattle.std.proofs.lemmas.Bool.{cases_eq, cases_Bool, eq-eqb, ne_eqb, and_left}
use Rattle.page_opt.specs.Plans.{has}
use Rattle.vm_facts.specs.Lists.{without_first}
use Rattle.page_opt.specs.Cache.{bit, count_in}
use Rattle.page_opt.proofs.Counts.{has_times, hasnt_times, times_has, times_hasnt, tally-without}
use Rattle.page_opt.proofs.Holding.{others, plus}

-- without_first the page p that isn't there, and with one that is
pub none_less : (p : ℕ) (cache : List ℕ) → has p cache ≡ false → (q : ℕ) → others p (λ r. has r cache) q ≡ has q cache
none_less p cache away q = elim (cases_eq q p) [
  | inl same ↦ let gone = ap (λ (r : ℕ). has r cache) same ∙ away in and_left (has q cache) (not (q == p)) gone ∙ sym gone
  | inr other ↦ ap (λ (b : Bool). has q cache && not b) (ne_eqb q p other) ∙ and-true (has q cache)
]

pub same_again : (p : ℕ) (cache : List ℕ) → has p cache ≡ true → (q : ℕ) → plus p (others p (λ r. has r cache)) q ≡ has q cache
same_again p cache there q = elim (cases_eq q p) [
  | inl same ↦
      ap (λ (b : Bool). b || (has q cache && not (q == p))) (eq-eqb q p same) ∙
      sym (ap (λ (r : ℕ). has r cache) same ∙ there)
  | inr other ↦ ap (λ (b : Bool). b || (has q cache && not b)) (ne_eqb q p other) ∙ and-true (has q cache)
]

pub has_first : (p q : ℕ) (cache : List ℕ) → has q (p ∷ cache) ≡ ((q == p) || has q cache)
unfolding has
has_first p q cache = elim (cases_eq q p) [
  | inl same ↦ ap (λ (b : Bool). b || has q cache) (eq-eqb p q (sym same)) ∙ ap (λ (b : Bool). b || has q cache) (sym (eq-eqb q p same))
  | inr other ↦ ap (λ (b : Bool). b || has q cache) (ne_eqb p q (λ e. other (sym e))) ∙ ap (λ (b : Bool). b || has q cache) (sym (ne_eqb q p other))
]

pub has-without : (v q : ℕ) (cache : List ℕ) → ((r : ℕ) → count_in r cache ≤ 1) → has v cache ≡ true
    → has q (without_first v cache) ≡ (has q cache && not (q == v))
has-without v q cache once there = elim (cases_eq q v) [
  | inl same ↦
      let one = ap bit (eq-eqb v q (sym same)) in
      let most = once q in
      let t = tally-without (λ r. r == q) v cache there in
      times_hasnt q (without_first v cache) (omega arith) ∙ sym (ap (λ (b : Bool). has q cache && not b) (eq-eqb q v same) ∙ and-false (has q cache))
  | inr other ↦
      let none = ap bit (ne_eqb v q (λ e. other (sym e))) in
      let t = tally-without (λ r. r == q) v cache there in
      by_times (omega arith) ∙ sym (ap (λ (b : Bool). has q cache && not b) (ne_eqb q v other) ∙ and-true (has q cache))
]
  where
    by_times : count_in q (without_first v cache) ≡ count_in q cache → has q (without_first v cache) ≡ has q cache
    by_times e = elim (cases_Bool (has q cache)) [
      | inl in_it ↦ times_has q (without_first v cache) (let s = has_times q cache in_it in omega arith) ∙ sym in_it
      | inr out ↦ times_hasnt q (without_first v cache) (let z = hasnt_times q cache out in omega arith) ∙ sym out
    ]

-- a page that wasn't there enters
pub times_enter : (p q : ℕ) (cache : List ℕ) → count_in p cache ≡ 0 → ((r : ℕ) → count_in r cache ≤ 1) → count_in q (p ∷ cache) ≤ 1
times_enter p q cache away once = elim (cases_eq p q) [
  | inl same ↦
      let none = ap (λ (r : ℕ). count_in r cache) same in
      let one = ap bit (eq-eqb p q same) in
      omega arith
  | inr other ↦
      let none = ap bit (ne_eqb p q other) in
      let rest = once q in
      omega arith
]
