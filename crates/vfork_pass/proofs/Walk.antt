-- The walk over the records, by rising pid, to the first that lends a space to a process.
use Rattle.std.proofs.Common.{◌≡◌, inl, inr, ℕ, ◌<◌, ◌≤◌, true, false, List, Option, Some, None, IsSome, refl, sym, subst, arith}
use Rattle.std.proofs.lemmas.Bool.{cases_eq, cases_lt}
use Rattle.proc_table.specs.declared.process.Proc.{Proc as Record}
use Rattle.proc_table.specs.Records.{find, Lowest}
use Rattle.machine_state.proofs.Kin.{true_false}
use Rattle.vfork_pass.specs.Lenders.{lends_in, IsLender}

-- no process below this one lends a space to the borrower
pub record NoneBelow (ps : List Record) (borrower pid : ℕ) : Type 0 where
  pub some : 0 < pid
  pub none : (q : ℕ) → 0 < q → q < pid → lends_in borrower (find q ps) ≡ false

module _ (ps : List Record) (borrower pid : ℕ) where
  -- none has a number between two that follow each other
  between : (next q : ℕ) → Lowest (λ k. (pid < k) × IsSome (find k ps)) (Some next) → pid < q → q < next → lends_in borrower (find q ps) ≡ false
  between next q l more less = go (find q ps) refl
    where
      go : (o : Option Record) → find q ps ≡ o → lends_in borrower o ≡ false
      go None e = refl
      go (Some p) e =
          let there : IsSome (find q ps) = subst (λ (o : Option Record). IsSome o) (sym e) refl in
          let most : next ≤ q = l.1 q (more, there) in
          absurd (omega arith)

  behind : (q : ℕ) → Lowest (λ k. (pid < k) × IsSome (find k ps)) None → pid < q → lends_in borrower (find q ps) ≡ false
  behind q l more = go (find q ps) refl
    where
      go : (o : Option Record) → find q ps ≡ o → lends_in borrower o ≡ false
      go None e = refl
      go (Some p) e = absurd (l q (more, subst (λ (o : Option Record). IsSome o) (sym e) refl))

  -- at this one, or below or above it
  at_each : (P : ℕ → Type 0) → P pid → ((q : ℕ) → q < pid → P q) → ((q : ℕ) → pid < q → P q) → (q : ℕ) → P q
  at_each P here below above q = elim (cases_lt q pid) [
    | inl l ↦ below q l
    | inr m ↦ elim (cases_eq q pid) [
      | inl i ↦ subst P (sym i) here
      | inr d ↦ above q (omega (arith, m, d))
    ]
  ]

  pub walk_goes : (next : ℕ) → NoneBelow ps borrower pid → lends_in borrower (find pid ps) ≡ false
      → Lowest (λ k. (pid < k) × IsSome (find k ps)) (Some next) → NoneBelow ps borrower next
  walk_goes next w here l = record {
    some = let a = w.some in let b = l.0.0 in omega (arith, a, b);
    none = λ q some less. at_each (λ (k : ℕ). 0 < k → k < next → lends_in borrower (find k ps) ≡ false) (λ _ _. here)
        (λ k m z _. w.none k z m) (λ k m _ z. between next k l m z) q some less;
  }

  pub walk_ends : NoneBelow ps borrower pid → lends_in borrower (find pid ps) ≡ false → Lowest (λ k. (pid < k) × IsSome (find k ps)) None
      → Lowest (IsLender ps borrower) None
  walk_ends w here l q x =
      true_false (lends_in borrower (find q ps)) x.1
      (at_each (λ (k : ℕ). 0 < k → lends_in borrower (find k ps) ≡ false) (λ _. here) (λ k m z. w.none k z m) (λ k m _. behind k l m) q x.0)

  pub walk_finds : NoneBelow ps borrower pid → lends_in borrower (find pid ps) ≡ true → Lowest (IsLender ps borrower) (Some pid)
  walk_finds w here = (
    (w.some, here),
    λ q x. elim (cases_lt q pid) [
      | inl l ↦ true_false (lends_in borrower (find q ps)) x.1 (w.none q x.0 l)
      | inr m ↦ m
    ],
  )

pub walk_begins : (ps : List Record) (borrower first : ℕ) → Lowest (λ k. (0 < k) × IsSome (find k ps)) (Some first) → NoneBelow ps borrower first
walk_begins ps borrower first l = record { some = l.0.0; none = λ q some less. between ps borrower 0 first q l some less }

pub walk_empty : (ps : List Record) (borrower : ℕ) → Lowest (λ k. (0 < k) × IsSome (find k ps)) None → Lowest (IsLender ps borrower) None
walk_empty ps borrower l q x = true_false (lends_in borrower (find q ps)) x.1 (behind ps borrower 0 q l x.0)
