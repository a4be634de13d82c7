-- Bytes that come one after another from a source, and how many may still come.
use Rattle.std.specs.Prelude.{◌≡◌, ℕ, suc, ◌+◌, ◌≤◌, length, List, [], ◌∷◌, Option, Some, None}

-- the next byte is the first of those that are left, and is there where one is left
abbrev pub Next : Option ℕ → List ℕ → List ℕ → ℕ → ℕ → Type 0
Next None before after room_before room_after = before ≡ []
Next (Some byte) before after room_before room_after = (before ≡ byte ∷ after) × (room_before ≡ suc room_after)

-- at most so many bytes were taken, and so many fewer may come
pub record Takes (before after : List ℕ) (room_before room_after most : ℕ) : Type 0 where
  pub some : length after ≤ length before
  pub few : length before ≤ length after + most
  pub room : room_before + length after ≡ room_after + length before
