-- What was written to a sink.
use Rattle.std.specs.Prelude.{◌≡◌, ◌≤◌, ℕ, List, ◌++◌, length, take, Option, Some, None}

-- these bytes were appended; what was written stays told, or untold
abbrev pub Appends : Option (List ℕ) → List ℕ → Option (List ℕ) → Type 0
Appends None bytes new = new ≡ None
Appends (Some written) bytes new = new ≡ Some (written ++ bytes)

-- a prefix of these bytes was appended
abbrev pub AppendsSome : Option (List ℕ) → List ℕ → Option (List ℕ) → Type 0
AppendsSome old bytes new = (count : ℕ) × (count ≤ length bytes) × Appends old (take count bytes) new

-- what was written stays, and more may follow it
abbrev pub Extends : Option (List ℕ) → Option (List ℕ) → Type 0
Extends old new = (more : List ℕ) × Appends old more new
