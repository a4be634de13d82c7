-- Faults that are counted reference by reference.
use Rattle.std.proofs.Common.{◌≡◌, ℕ, ◌+◌, ◌<◌, ◌≤◌, Bool, true, false, cond, List, length, drop, get_or, ap, arith}
use Rattle.std.proofs.lemmas.List.{at_drop_more, at_drop_all}
use Rattle.policy_faults.specs.Policies.{faults_over}

-- the faults so far, with those of the references that are left, are all
pub record Counted {M : Type 0} (resident : ℕ → M → Bool) (after : ℕ → M → M) (memory : M) (refs : List ℕ) (i faults total : ℕ) : Type 0 where
  pub few : faults ≤ i
  pub counts : faults + faults_over resident after memory (drop i refs) ≡ total

pub counted_start : {M : Type 0} (resident : ℕ → M → Bool) (after : ℕ → M → M) (memory first : M) (refs : List ℕ) → memory ≡ first
    → Counted resident after memory refs 0 0 (faults_over resident after first refs)
counted_start resident after memory first refs same =
    let e = ap (λ m. faults_over resident after m refs) same in
    record { few = omega arith; counts = omega arith }

at_most_one : (b : Bool) → cond b 0 1 ≤ 1
at_most_one true = omega arith
at_most_one false = omega arith

pub one_fault : (faults : ℕ) (b : Bool) → faults ≡ cond b 0 1 → faults ≤ 1
one_fault faults b e = let most = at_most_one b in omega arith

next_is : {M : Type 0} (resident : ℕ → M → Bool) (after : ℕ → M → M) (memory : M) (refs : List ℕ) (i : ℕ) → i < length refs
    → faults_over resident after memory (drop i refs)
    ≡ cond (resident (get_or refs i 0) memory) 0 1 + faults_over resident after (after (get_or refs i 0) memory) (drop (i + 1) refs)
unfolding faults_over
next_is resident after memory refs i within = at_drop_more (faults_over resident after memory) refs i 0 within

pub counted_step : {M : Type 0} (resident : ℕ → M → Bool) (after : ℕ → M → M) (memory later : M) (refs : List ℕ) (i faults one total : ℕ) → i < length refs
    → later ≡ after (get_or refs i 0) memory → one ≡ cond (resident (get_or refs i 0) memory) 0 1 → Counted resident after memory refs i faults total
    → Counted resident after later refs (i + 1) (faults + one) total
counted_step resident after memory later refs i faults one total within is counts so_far =
    let next = next_is resident after memory refs i within in
    let most = one_fault one (resident (get_or refs i 0) memory) counts in
    let rest = ap (λ m. faults_over resident after m (drop (i + 1) refs)) is in
    let few = so_far.few in
    let all = so_far.counts in
    record { few = omega arith; counts = omega arith }

pub counted_end : {M : Type 0} (resident : ℕ → M → Bool) (after : ℕ → M → M) (memory : M) (refs : List ℕ) (i faults total : ℕ) → length refs ≤ i
    → Counted resident after memory refs i faults total → faults ≡ total
unfolding faults_over
counted_end resident after memory refs i faults total past so_far =
    let none : faults_over resident after memory (drop i refs) ≡ 0 = at_drop_all (faults_over resident after memory) refs i past in
    let all = so_far.counts in
    omega arith
