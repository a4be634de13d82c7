-- Words on lists of numbers: how often one stands there, and the list without it.
use Rattle.std.specs.Prelude.{ℕ, ◌+◌, ◌==◌, cond, List, [], ◌∷◌, slice_set}

-- how often a number stands in a list
abbrev pub times : ℕ → List ℕ → ℕ
times n [] = 0
times n (x ∷ xs) = cond (x == n) 1 0 + times n xs

-- the list without a number, wherever it stands
abbrev pub without : ℕ → List ℕ → List ℕ
without n [] = []
without n (x ∷ xs) = cond (x == n) (without n xs) (x ∷ without n xs)

-- the list without a number where it stands first
unfoldable pub without_first : ℕ → List ℕ → List ℕ
without_first n [] = []
without_first n (x ∷ xs) = cond (x == n) xs (x ∷ without_first n xs)

-- the list with other numbers from a place on, one after another
abbrev pub overwritten : List ℕ → ℕ → List ℕ → List ℕ
overwritten xs at [] = xs
overwritten xs at (y ∷ ys) = overwritten (slice_set xs at y) (at + 1) ys
