-- One reference to a memory that brings in its page alone, and only where it isn't there.
use Rattle.std.proofs.Common.{◌≡◌, ℕ, ◌+◌, ◌≤◌, Bool, true, false, cond, List, length, refl, sym, ap, ◌∙◌, subst, arith, inl, inr, ◌⊎◌}
use Rattle.std.specs.Prelude.{◌==◌}
use Rattle.std.proofs.lemmas.Bool.{cases_eq, eq-eqb, ne_eqb}
use Rattle.page_opt.specs.Plans.{has}
use Rattle.page_opt.specs.Cache.{bit, count_in, IsCache}
use Rattle.page_opt.proofs.Counts.{has_times, times_has}
use Rattle.fault_laws.specs.Memory.{lacking}
use Rattle.fault_laws.proofs.Lacking.{lacking_none, lacking_one}

-- a reference to page p, whose memory was this before and after, and whether it was there
pub record Stepped (n p : ℕ) (before after : List ℕ) (hit : Bool) : Type 0 where
  pub cache : IsCache n after
  pub there : has p after ≡ true
  pub few : lacking before after ≤ cond hit 0 1

-- the pages stay
pub stays : (n p : ℕ) (before after : List ℕ) → after ≡ before → IsCache n before → has p before ≡ true → Stepped n p before after true
stays n p before after same cache there =
    subst (λ (pages : List ℕ). Stepped n p before pages true) (sym same)
    (record { cache = cache; there = there; few = let none = lacking_none before before (λ q h. h) in omega arith })

-- the page comes to those for which there is room
pub comes : (n p : ℕ) (before room after : List ℕ) (hit : Bool) → has p before ≡ hit → IsCache n before → ((q : ℕ) → count_in q room ≤ count_in q before)
    → count_in p room ≡ 0 → length room + 1 ≤ n → ((q : ℕ) → count_in q after ≡ count_in q room + bit (p == q)) → length after ≡ length room + 1
    → Stepped n p before after hit
comes n p before room after hit is cache fewer none fits counts size = record {
  cache = record { once = once; small = omega arith };
  there = times_has p after (let c = counts p in let one = ap bit (eq-eqb p p refl) in omega arith);
  few = by hit is;
}
  where
    once : (q : ℕ) → count_in q after ≤ 1
    once q = elim (cases_eq p q) [
      | inl same ↦ (
          let c = counts q in
          let one = ap bit (eq-eqb p q same) in
          let gone : count_in q room ≡ count_in p room = ap (λ (r : ℕ). count_in r room) (sym same) in
          omega arith)
      | inr other ↦ (
          let c = counts q in
          let zero_bit = ap bit (ne_eqb p q other) in
          let less = fewer q in
          let most = cache.once q in
          omega arith)
    ]

    among : (q : ℕ) → has q after ≡ true → (has q before ≡ true) ⊎ (q ≡ p)
    among q h = elim (cases_eq p q) [
      | inl same ↦ inr (sym same)
      | inr other ↦ inl (times_has q before (
          let some = has_times q after h in
          let c = counts q in
          let zero_bit = ap bit (ne_eqb p q other) in
          let less = fewer q in
          omega arith))
    ]

    by : (hit : Bool) → has p before ≡ hit → lacking before after ≤ cond hit 0 1
    by true there =
        let all = lacking_none before after (λ q h. elim (among q h) [
          | inl in_it ↦ in_it
          | inr same ↦ ap (λ (r : ℕ). has r before) same ∙ there
        ]) in
        omega arith
    by false away = lacking_one p before after (once p) among
