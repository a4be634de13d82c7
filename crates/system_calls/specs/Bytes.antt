-- The bytes of a file, where they are told, and what a call makes of them.
use Rattle.io_edge.specs.FileHolding.{file_range}
use Rattle.std.specs.Prelude.{◌≡◌, ◌≤◌, ◌⊎◌, ◌<◌, ◌+◌, ◌-◌, ℕ, Bool, true, false, List, [], ◌++◌, length, take, drop, replicate, Option, Some, None, IsTrue, ⊤}
use Rattle.system_calls.specs.declared.facts.FileFacts.{FileFacts}

-- where the bytes are told, these are those from the offset on
abbrev pub HoldsBytes : Option (List ℕ) → ℕ → List ℕ → Type 0
HoldsBytes None offset got = ⊤
HoldsBytes (Some bytes) offset got = got ≡ file_range bytes offset (length got)

-- where the bytes are told, these are all of them, up to so many
abbrev pub HoldsStart : Option (List ℕ) → ℕ → List ℕ → Type 0
HoldsStart None most got = ⊤
HoldsStart (Some bytes) most got = got ≡ take most bytes

-- where the bytes are told, a length that the system says of a plain file is theirs, unless it is 0
abbrev pub HasLength : Option (List ℕ) → FileFacts → Type 0
HasLength None facts = ⊤
HasLength (Some bytes) facts = IsTrue facts.is_plain → 0 < facts.len → facts.len ≡ length bytes

-- bytes that end at this offset or behind it: zeros fill what is missing
abbrev pub filled_to : ℕ → List ℕ → List ℕ
filled_to offset bytes = bytes ++ replicate (offset - length bytes) 0

-- bytes after a piece was written over them from this offset on
abbrev pub written_over : List ℕ → ℕ → List ℕ → List ℕ
written_over bytes offset piece = take offset (filled_to offset bytes) ++ piece ++ drop (offset + length piece) bytes

-- the bytes after a piece was written; they stay told, or untold
abbrev pub WritesBytes : Option (List ℕ) → ℕ → List ℕ → Option (List ℕ) → Type 0
WritesBytes None offset piece new = new ≡ None
WritesBytes (Some bytes) offset piece new = new ≡ Some (written_over bytes offset piece)

-- the bytes after the write of a piece failed: a first part of it was written, or nothing at all; they stay told, or untold
abbrev pub SpoilsBytes : Option (List ℕ) → ℕ → List ℕ → Option (List ℕ) → Type 0
SpoilsBytes old offset piece new = (new ≡ old) ⊎ ((count : ℕ) × (count ≤ length piece) × WritesBytes old offset (take count piece) new)

-- the bytes after all were taken away; they stay told, or untold
abbrev pub Empties : Option (List ℕ) → Option (List ℕ) → Type 0
Empties None new = new ≡ None
Empties (Some bytes) new = new ≡ Some []

-- the bytes are told, where they have to be
abbrev pub IsTold : Bool → Option (List ℕ) → Type 0
IsTold false bytes = ⊤
IsTold true None = ⊥
IsTold true (Some bytes) = ⊤
