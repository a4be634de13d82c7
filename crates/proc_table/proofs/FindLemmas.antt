-- Records in a list, by pid.
use Rattle.std.proofs.Common.{◌≡◌, ◌≢◌, ◌⊎◌, inl, inr, ℕ, ◌<◌, ◌≤◌, IsSome, List, [], ◌∷◌, ◌++◌, Option, Some, None, refl, arith}
use Rattle.std.proofs.lemmas.Bool.{cases_eq}
use Rattle.std.proofs.Math.Nat.{min-eq_left, min-eq_right}
use Rattle.proc_table.specs.declared.process.Proc.{Proc}
use Rattle.proc_table.specs.Records.{find, Lowest}
use Rattle.proc_table.specs.Fields.{lower_of}

pub found_or_not : (o : Option Proc) → (o ≡ None) ⊎ ((p : Proc) × (o ≡ Some p))
found_or_not None = inl refl
found_or_not (Some p) = inr (p, refl)

pub find-here : (pid : ℕ) (p : Proc) (ps : List Proc) → p.pid ≡ pid → find pid (p ∷ ps) ≡ Some p
find-here pid p ps same = grind arith

pub find-later : (pid : ℕ) (p : Proc) (ps : List Proc) → p.pid ≢ pid → find pid (p ∷ ps) ≡ find pid ps
find-later pid p ps differs = grind arith

-- a record that is put last is found where no earlier one has its pid
pub found_before : (pid : ℕ) (p : Proc) (ps : List Proc) → IsSome (find pid ps) → IsSome (find pid (ps ++ p ∷ []))
found_before pid p [] found = absurd (cc)
found_before pid p (r ∷ rs) found =
    elim (cases_eq r.pid pid) [
      | inl same ↦ rw (find-here pid r (rs ++ p ∷ []) same) refl
      | inr differs ↦ rw (find-later pid r (rs ++ p ∷ []) differs) (found_before pid p rs (rw (find-later pid r rs differs) at found))
    ]

pub found_last : (p : Proc) (ps : List Proc) → IsSome (find p.pid (ps ++ p ∷ []))
found_last p [] = rw (find-here p.pid p [] refl) refl
found_last p (r ∷ rs) =
    elim (cases_eq r.pid p.pid) [
      | inl same ↦ rw (find-here p.pid r (rs ++ p ∷ []) same) refl
      | inr differs ↦ rw (find-later p.pid r (rs ++ p ∷ []) differs) (found_last p rs)
    ]

pub found_cases : (pid : ℕ) (p : Proc) (ps : List Proc) → IsSome (find pid (ps ++ p ∷ [])) → IsSome (find pid ps) ⊎ (p.pid ≡ pid)
found_cases pid p [] found =
    elim (cases_eq p.pid pid) [
      | inl same ↦ inr same
      | inr differs ↦ let later = find-later pid p [] differs in absurd (cc)
    ]
found_cases pid p (r ∷ rs) found =
    elim (cases_eq r.pid pid) [
      | inl same ↦ inl (rw (find-here pid r rs same) refl)
      | inr differs ↦ rw (find-later pid r rs differs) (found_cases pid p rs (rw (find-later pid r (rs ++ p ∷ []) differs) at found))
    ]

-- the pids above this one that are found
abbrev pub IsAbove : ℕ → List Proc → ℕ → Type 0
IsAbove pid ps q = (pid < q) × IsSome (find q ps)

pub lowest_kept : (pid : ℕ) (p : Proc) (ps : List Proc) (lowest : Option ℕ) → p.pid ≤ pid → Lowest (IsAbove pid ps) lowest
    → Lowest (IsAbove pid (ps ++ p ∷ [])) lowest
lowest_kept pid p ps None low was =
    λ q above. elim (found_cases q p ps above.1) [
      | inl before ↦ was q (above.0, before)
      | inr same ↦ omega (arith, low, same, above.0)
    ]
lowest_kept pid p ps (Some n) low was = (
  (was.0.0, found_before n p ps was.0.1),
  λ q above. elim (found_cases q p ps above.1) [
    | inl before ↦ was.1 q (above.0, before)
    | inr same ↦ omega (arith, low, same, above.0)
  ],
)

pub lowest_lowered : (pid : ℕ) (p : Proc) (ps : List Proc) (lowest : Option ℕ) → pid < p.pid → Lowest (IsAbove pid ps) lowest
    → Lowest (IsAbove pid (ps ++ p ∷ [])) (Some (lower_of lowest p.pid))
lowest_lowered pid p ps None high was = (
  (high, found_last p ps),
  λ q above. elim (found_cases q p ps above.1) [
    | inl before ↦ absurd (was q (above.0, before))
    | inr same ↦ omega (arith, same)
  ],
)
lowest_lowered pid p ps (Some n) high was =
    elim (cases_le n p.pid) [
      | inl le ↦ rw (min-eq_left le) (
        (was.0.0, found_before n p ps was.0.1),
        λ q above. elim (found_cases q p ps above.1) [
          | inl before ↦ was.1 q (above.0, before)
          | inr same ↦ omega (arith, same, le)
        ],
      )
      | inr lt ↦ rw (min-eq_right lt) (
        (high, found_last p ps),
        λ q above. elim (found_cases q p ps above.1) [
          | inl before ↦ let least = was.1 q (above.0, before) in omega (arith, least, lt)
          | inr same ↦ omega (arith, same)
        ],
      )
    ]
  where
    cases_le : (a b : ℕ) → (a ≤ b) ⊎ (b ≤ a)
    cases_le a b = grind arith
