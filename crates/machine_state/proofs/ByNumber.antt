-- What is kept of the numbers from one on, in a list by rising number: a step from a pid to the next one in the table skips nothing.
use Rattle.std.proofs.Common.{◌≡◌, ◌≢◌, inl, inr, ℕ, zero, suc, ◌+◌, ◌-◌, ◌<◌, ◌≤◌, List, [], ◌∷◌, Option, Some, None, IsSome, refl, sym, ap, ◌∙◌, arith}
use Rattle.std.specs.Prelude.{filter_map}
use Rattle.std.specs.List.{range_with_len}
use Rattle.std.proofs.lemmas.Bool.{cases_eq, cases_lt}
use Rattle.std.proofs.lemmas.Bool.Decides.{nat_tests}
use Rattle.proc_table.specs.declared.process.Proc.{Proc as Record}
use Rattle.proc_table.specs.Records.{find, Lowest}
use Rattle.page_model.specs.Placement.{Residence}
use Rattle.page_model.specs.Swapper as swapper
use Rattle.table_steps.specs.Alike.{AreRecords}
use Rattle.table_steps.specs.Machine.{residence_shown}
use Rattle.table_steps.proofs.Records.{keeps_none, keeps_some}
use Rattle.table_steps.proofs.MovedRecords.{found_residence}

-- the list from a number on
abbrev pub over : {A : Type 0} → (ℕ → Option A) → ℕ → ℕ → List A
over g v next = filter_map g (range_with_len v (next - v))

pub over_none : {A : Type 0} (g : ℕ → Option A) (v next : ℕ) → v < next → g v ≡ None → over g v next ≡ over g (v + 1) next
over_none {A} g v next l e =
    let m : next - v ≡ suc (next - (v + 1)) = omega arith in
    ap (λ (k : ℕ). filter_map g (range_with_len v k)) m ∙ keeps_none g v (range_with_len (v + 1) (next - (v + 1))) e

pub over_some : {A : Type 0} (g : ℕ → Option A) (v next : ℕ) (x : A) → v < next → g v ≡ Some x → over g v next ≡ x ∷ over g (v + 1) next
over_some {A} g v next x l e =
    let m : next - v ≡ suc (next - (v + 1)) = omega arith in
    ap (λ (k : ℕ). filter_map g (range_with_len v k)) m ∙ keeps_some g v (range_with_len (v + 1) (next - (v + 1))) x e

over_end : {A : Type 0} (g : ℕ → Option A) (v next : ℕ) → next ≤ v → over g v next ≡ []
over_end {A} g v next l = let m : next - v ≡ 0 = omega arith in ap (λ (k : ℕ). filter_map g (range_with_len v k)) m

over_empty : {A : Type 0} (g : ℕ → Option A) (v next : ℕ) → ((n : ℕ) → v ≤ n → n < next → g n ≡ None) → (k : ℕ) → next ≡ v + k → over g v next ≡ []
over_empty g v next none zero e = over_end g v next (omega (arith, e))
over_empty g v next none (suc k) e =
    over_none g v next (omega (arith, e)) (none v (omega arith) (omega (arith, e)))
    ∙ over_empty g (v + 1) next (λ n l m. none n (omega (arith, l)) m) k (omega (arith, e))

over_skips : {A : Type 0} (g : ℕ → Option A) (v w next : ℕ) → w ≤ next → ((n : ℕ) → v ≤ n → n < w → g n ≡ None) → (k : ℕ) → w ≡ v + k
    → over g v next ≡ over g w next
over_skips g v w next l none zero e = let i : v ≡ w = omega (arith, e) in ap (λ (n : ℕ). over g n next) i
over_skips g v w next l none (suc k) e =
    over_none g v next (omega (arith, e, l)) (none v (omega arith) (omega (arith, e)))
    ∙ over_skips g (v + 1) w next l (λ n a b. none n (omega (arith, a)) b) k (omega (arith, e))

not_there : (o : Option Record) → (IsSome o → ⊥) → o ≡ None
not_there None h = refl
not_there (Some x) h = absurd (h refl)

-- the next pid is that of a record
pub next_is : (ps : List Record) (next last pid : ℕ) → AreRecords ps next → Lowest (λ q. (last < q) × IsSome (find q ps)) (Some pid)
    → (1 ≤ pid) × (pid < next) × (last < pid)
next_is ps next last pid h low = go (find pid ps) refl low.0.1
  where
    go : (o : Option Record) → find pid ps ≡ o → IsSome o → (1 ≤ pid) × (pid < next) × (last < pid)
    go None e s = absurd cc
    go (Some x) e s = let k = h.known pid x e in (k.0, k.1, low.0.0)

pub next_follows : {A : Type 0} (f : Option Record → Option A) (ps : List Record) (next last pid : ℕ) → f None ≡ None → AreRecords ps next
    → Lowest (λ q. (last < q) × IsSome (find q ps)) (Some pid) → over (λ n. f (find n ps)) (last + 1) next ≡ over (λ n. f (find n ps)) pid next
next_follows f ps next last pid none h low =
    let k = next_is ps next last pid h low in
    over_skips (λ n. f (find n ps)) (last + 1) pid next (omega (arith, k.1)) skipped (pid - (last + 1)) (omega (arith, k.2))
  where
    skipped : (n : ℕ) → last + 1 ≤ n → n < pid → f (find n ps) ≡ None
    skipped n l m = ap f (not_there (find n ps) (λ s. absurd (let x = low.1 n (omega (arith, l), s) in omega (arith, m, x)))) ∙ none

pub none_follows : {A : Type 0} (f : Option Record → Option A) (ps : List Record) (next last : ℕ) → f None ≡ None
    → Lowest (λ q. (last < q) × IsSome (find q ps)) None → over (λ n. f (find n ps)) (last + 1) next ≡ []
none_follows f ps next last none low = elim (cases_lt (last + 1) next) [
  | inl l ↦ over_empty (λ n. f (find n ps)) (last + 1) next (λ n a b. ap f (not_there (find n ps) (λ s. low n (omega (arith, a), s))) ∙ none) (next - (last + 1)) (omega (arith, l))
  | inr l ↦ over_end (λ n. f (find n ps)) (last + 1) next l
]

-- The residence of a process among those of all.

pub residence_hit : (pid : ℕ) (r : Residence) (rs : List Residence) → r.pid ≡ pid → swapper.residence_of (r ∷ rs) pid ≡ r
residence_hit pid r rs e = grind (arith, nat_tests)

pub residence_miss : (pid : ℕ) (r : Residence) (rs : List Residence) → r.pid ≢ pid → swapper.residence_of (r ∷ rs) pid ≡ swapper.residence_of rs pid
residence_miss pid r rs e = grind (arith, nat_tests)

pub residence_over : (ps : List Record) (pid : ℕ) (r : Residence) (a k : ℕ) → a ≤ pid → pid < a + k → residence_shown (find pid ps) ≡ Some r
    → swapper.residence_of (filter_map (λ n. residence_shown (find n ps)) (range_with_len a k)) pid ≡ r
residence_over ps pid r a zero l m e = absurd (omega arith)
residence_over ps pid r a (suc k) l m e = elim (cases_eq a pid) [
  | inl i ↦
      let here : residence_shown (find a ps) ≡ Some r = ap (λ (n : ℕ). residence_shown (find n ps)) i ∙ e in
      ap (λ (rs : List Residence). swapper.residence_of rs pid) (keeps_some (λ n. residence_shown (find n ps)) a (range_with_len (a + 1) k) r here)
      ∙ residence_hit pid r (filter_map (λ n. residence_shown (find n ps)) (range_with_len (a + 1) k)) (found_residence a ps r here ∙ i)
  | inr d ↦ go (residence_shown (find a ps)) refl d (residence_over ps pid r (a + 1) k (let x : (a ≡ pid → ⊥) = d in omega (arith, x)) (omega arith) e)
]
  where
    go : (o : Option Residence) → residence_shown (find a ps) ≡ o → a ≢ pid → swapper.residence_of (filter_map (λ n. residence_shown (find n ps)) (range_with_len (a + 1) k)) pid ≡ r
        → swapper.residence_of (filter_map (λ n. residence_shown (find n ps)) (range_with_len a (suc k))) pid ≡ r
    go None f d more = ap (λ (rs : List Residence). swapper.residence_of rs pid) (keeps_none (λ n. residence_shown (find n ps)) a (range_with_len (a + 1) k) f) ∙ more
    go (Some y) f d more =
        ap (λ (rs : List Residence). swapper.residence_of rs pid) (keeps_some (λ n. residence_shown (find n ps)) a (range_with_len (a + 1) k) y f)
        ∙ residence_miss pid y (filter_map (λ n. residence_shown (find n ps)) (range_with_len (a + 1) k)) (λ h. d (sym (found_residence a ps y f) ∙ h))
        ∙ more
