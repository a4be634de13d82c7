-- Faults of a memory that steps so at each reference are at least the least of any plan.
use Rattle.std.proofs.Common.{◌≡◌, ℕ, ◌≤◌, Bool, List, [], ◌∷◌, refl, sym, ap, subst, arith, inl, inr}
use Rattle.std.specs.Prelude.{◌==◌, true, false}
use Rattle.std.proofs.lemmas.Bool.{eqb-true, or_cases, false≢true}
use Rattle.page_opt.specs.Plans.{has}
use Rattle.page_opt.specs.Cache.{IsCache}
use Rattle.fault_laws.specs.Memory.{Moment, used_in, brought, IsMemory, NoneFewer}
use Rattle.fault_laws.proofs.Demand.{memory_least}
use Rattle.policy_faults.specs.Policies.{faults_over}
use Rattle.fault_laws.proofs.Stepping.{Stepped}

-- each reference is such a step of the pages of a memory
abbrev pub IsDemand : {M : Type 0} → ℕ → (M → List ℕ) → (ℕ → M → Bool) → (ℕ → M → M) → Type 0
IsDemand {M} n pages resident after =
    (memory : M) (p : ℕ) → IsCache n (pages memory) → Stepped n p (pages memory) (pages (after p memory)) (resident p memory)

module _ {M : Type 0} (n : ℕ) (pages : M → List ℕ) (resident : ℕ → M → Bool) (after : ℕ → M → M) (demand : IsDemand n pages resident after) where
  moments : M → List ℕ → List Moment
  moments memory [] = []
  moments memory (p ∷ refs) = record { pages = pages (after p memory); used = p ∷ [] } ∷ moments (after p memory) refs

  used : (memory : M) (refs : List ℕ) → used_in (moments memory refs) ≡ refs
  unfolding moments
  used memory [] = refl
  used memory (p ∷ refs) = ap (λ (qs : List ℕ). p ∷ qs) (used (after p memory) refs)

  only : (p q : ℕ) → has q (p ∷ []) ≡ true → p ≡ q
  unfolding has
  only p q h = elim (or_cases (p == q) false h) [ inl same ↦ eqb-true p q same | inr none ↦ absurd (false≢true none) ]

  is_memory : (memory : M) (refs : List ℕ) → IsCache n (pages memory) → IsMemory n (moments memory refs)
  unfolding moments
  is_memory memory [] cache = tt
  is_memory memory (p ∷ refs) cache =
      let step = demand memory p cache in (
        record { held = step.cache; there = λ q h. subst (λ (r : ℕ). has r (pages (after p memory)) ≡ true) (only p q h) step.there },
        is_memory (after p memory) refs step.cache,
      )

  few : (memory : M) (refs : List ℕ) → IsCache n (pages memory) → brought (pages memory) (moments memory refs) ≤ faults_over resident after memory refs
  unfolding moments faults_over
  few memory [] cache = omega arith
  few memory (p ∷ refs) cache =
      let step = demand memory p cache in
      let one = step.few in
      let rest = few (after p memory) refs step.cache in
      omega arith

  pub at_least : (memory : M) (refs : List ℕ) (least : ℕ) → pages memory ≡ [] → IsCache n [] → NoneFewer refs n least
      → least ≤ faults_over resident after memory refs
  at_least memory refs least none cache fewer =
      let all = memory_least n least (moments memory refs)
      (is_memory memory refs (subst (λ (ps : List ℕ). IsCache n ps) (sym none) cache))
      (subst (λ (rs : List ℕ). NoneFewer rs n least) (sym (used memory refs)) fewer) in
      let most = few memory refs (subst (λ (ps : List ℕ). IsCache n ps) (sym none) cache) in
      let same = ap (λ (ps : List ℕ). brought ps (moments memory refs)) none in
      omega arith
