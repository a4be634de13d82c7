-- How a word of a file is told: itself where it is short and printable, else three dots.
use Rattle.std.specs.Prelude.{ℕ, Bool, ◌&&◌, nat_le, List, length, codes, if◌then◌else◌}
use Rattle.std.specs.List.{list_all}

-- a printable byte of ASCII
abbrev pub is_graphic : ℕ → Bool
is_graphic byte = nat_le 33 byte && nat_le byte 126

-- a word as it is told: itself where it is short and printable
unfoldable pub shown : List ℕ → List ℕ
shown word = if nat_le (length word) 20 && list_all is_graphic word then word else codes "..."
