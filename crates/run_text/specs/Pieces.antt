-- Cutting a text: where a line ends, and what stands at a space.
use Rattle.std.specs.Prelude.{◌≡◌, ◌≢◌, ℕ, ◌==◌, suc, if◌then◌else◌, List, [], ◌∷◌, ⊤}

-- how long the first line is, with its end
abbrev pub line_len : List ℕ → ℕ
line_len [] = 0
line_len (b ∷ bs) = if b == 10 then 1 else suc (line_len bs)

-- a byte doesn't stand there
abbrev pub HasNo : ℕ → List ℕ → Type 0
HasNo c [] = ⊤
HasNo c (b ∷ bs) = (b ≢ c) × HasNo c bs

-- nothing, or a space first
abbrev pub AtSpace : List ℕ → Type 0
AtSpace [] = ⊤
AtSpace (b ∷ bs) = b ≡ 32
