-- Lists of what is said of each frame; frames are numbered from 1.
use Rattle.std.specs.Prelude.{ℕ, zero, suc, ◌+◌, ◌==◌, cond, List, [], ◌∷◌, get_or, set}

-- what a list says of a frame; the default where there is no such frame
abbrev pub at_frame : {A : Type 0} → List A → ℕ → A → A
at_frame xs zero d = d
at_frame xs (suc n) d = get_or xs n d

-- the list with another item for a frame; the same list where there is no such frame
abbrev pub set_frame : {A : Type 0} → List A → ℕ → A → List A
set_frame xs zero x = xs
set_frame xs (suc n) x = set xs n x

-- so many numbers, from one on
abbrev pub count_up : ℕ → ℕ → List ℕ
count_up a zero = []
count_up a (suc n) = a ∷ count_up (a + 1) n

-- the frame after this one, of n; after the last the first
abbrev pub next_frame : ℕ → ℕ → ℕ
next_frame n f = cond (f == n) 1 (f + 1)
