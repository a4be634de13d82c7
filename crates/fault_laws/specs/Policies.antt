-- Premises of the laws on policies: a policy's faults against the least, and Belady's twelve references.
use Rattle.std.specs.Prelude.{◌≤◌, ℕ, List, [], ◌∷◌}
use Rattle.fault_laws.specs.Memory.{NoneFewer}

-- with one frame and up, a policy with so many faults has at least the least of any plan
abbrev pub IsAboveLeast : (List ℕ → ℕ → ℕ) → Type 0
IsAboveLeast faults = (refs : List ℕ) (n least : ℕ) → 1 ≤ n → NoneFewer refs n least → least ≤ faults refs n

-- the twelve references of Belady, Nelson and Shedler
abbrev pub twelve_references : List ℕ
twelve_references = 1 ∷ 2 ∷ 3 ∷ 4 ∷ 1 ∷ 2 ∷ 5 ∷ 1 ∷ 2 ∷ 3 ∷ 4 ∷ 5 ∷ []
