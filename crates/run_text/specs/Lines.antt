-- The lines of a text, and where the first one stands that isn't in a grammar.
use Rattle.std.specs.Prelude.{◌≡◌, ◌≤◌, ℕ, ◌+◌, ◌==◌, Bool, true, false, List, [], ◌∷◌, ◌++◌, length, ⊤}

-- a byte before lines: a line's end is a line of its own, and another byte begins the first of them
abbrev pub begin_line : Bool → ℕ → List (List ℕ) → List (List ℕ)
begin_line true b ls = (b ∷ []) ∷ ls
begin_line false b [] = (b ∷ []) ∷ []
begin_line false b (l ∷ ls) = (b ∷ l) ∷ ls

-- the lines of a text, each with its end, a line feed, which only the last may lack
unfoldable pub lines_in : List ℕ → List (List ℕ)
lines_in [] = []
lines_in (b ∷ bs) = begin_line (b == 10) b (lines_in bs)

-- each of these lines is that of its item
abbrev pub AreLines : {E : Type 0} → (E → List ℕ → Type 0) → List E → List (List ℕ) → Type 0
AreLines IsLine [] [] = ⊤
AreLines IsLine [] (l ∷ ls) = ⊥
AreLines IsLine (e ∷ es) [] = ⊥
AreLines IsLine (e ∷ es) (l ∷ ls) = IsLine e l × AreLines IsLine es ls

-- Line n, counted from 1, is the first bad one: those before it are lines of items, and it is a line
-- of none, or stands after as many lines as there may be.
pub record IsFirstBad {E : Type 0} (IsLine : E → List ℕ → Type 0) (most n : ℕ) (ls : List (List ℕ)) : Type 0 where
  pub items : List E
  pub before : List (List ℕ)
  pub bad : List ℕ
  pub after : List (List ℕ)
  pub split : ls ≡ before ++ bad ∷ after
  pub number : n ≡ length before + 1
  pub good : AreLines IsLine items before
  pub none : n ≤ most → (e : E) → IsLine e bad → ⊥
  pub within : n ≤ most + 1
