-- The last line of a transcript, where it is the line of a fault.
use Rattle.std.specs.Prelude.{◌≡◌, ◌≢◌, ℕ, ◌+◌, ◌-◌, ◌<◌, ◌≤◌, Bool, true, false, List, [], ◌∷◌, length, take, slice_index, bytes_eq, codes}

-- the line of a fault
abbrev pub is_fault_line : List ℕ → Bool
is_fault_line line = bytes_eq (codes "vmrun: ") (take 7 line)

-- a last line, by whether it is the line of a fault, which is left out
abbrev pub unless_fault : Bool → List ℕ → List (List ℕ)
unless_fault true line = []
unless_fault false line = line ∷ []

-- lines without the last one, where that is the line of a fault
abbrev pub without_fault_line : List (List ℕ) → List (List ℕ)
without_fault_line [] = []
without_fault_line (line ∷ []) = unless_fault (is_fault_line line) line
without_fault_line (line ∷ next ∷ lines) = line ∷ without_fault_line (next ∷ lines)

-- the last line begins here: at the front or after a line feed, and no other line feed but the last byte follows
pub record IsLastStart (bytes : List ℕ) (start : ℕ) : Type 0 where
  pub within : start ≤ length bytes
  pub some : 0 < length bytes → start < length bytes
  pub behind : 0 < start → slice_index bytes (start - 1) ≡ 10
  pub last : (k : ℕ) → start ≤ k → k + 1 < length bytes → slice_index bytes k ≢ 10
