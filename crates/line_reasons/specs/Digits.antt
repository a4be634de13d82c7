-- The number that a word of a schedule writes, where zeros may lead.
use Rattle.std.specs.Prelude.{ℕ, ◌&&◌, nat_le, List, length, Option, Some, None, if◌then◌else◌}
use Rattle.std.specs.List.{list_all}
use Rattle.std.specs.Char.{is_ascii_digit}
use Rattle.std.specs.Str.Parse.{digits_value}

-- the number that 1 to 8 digits write in decimal, where zeros may lead
unfoldable pub decimal_of : List ℕ → Option ℕ
decimal_of word = if (nat_le 1 (length word) && nat_le (length word) 8) && list_all is_ascii_digit word then Some (digits_value 10 word) else None
