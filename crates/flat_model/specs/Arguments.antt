-- The arguments that an image may start with: few, and short.
use Rattle.std.specs.Prelude.{ℕ, ◌<◌, ◌≤◌, List, length, All, Option, Some, None, Result, Ok, Err}
use Rattle.user_vax.specs.declared.refused.Refused.{Refused}

-- at most 8, of at most 63 bytes each
pub record AreArguments (arguments : List (List ℕ)) : Type 0 where
  pub few : length arguments ≤ 8
  pub short : All (λ argument. length argument < 64) arguments

-- a string that was read has at most 63 bytes
abbrev pub IsShort : Result (Option (List ℕ)) Refused → Type 0
IsShort (Ok (Some string)) = length string < 64
IsShort (Ok None) = Unit {0}
IsShort (Err refused) = Unit {0}
