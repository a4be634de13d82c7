-- Reading a number of a line, as a function: its digits, and its value as far as a range can hold it.
use Prim.Native.Char.{code}
use Rattle.std.specs.Prelude.{⊤, IsTrue, ℕ, ◌==◌, ◌&&◌, ◌||◌, Bool, true, false, not, if◌then◌else◌, min, List, [], ◌∷◌, drop, Some, None}
use Rattle.std.specs.Int.{is_in_range}
use Rattle.std.specs.Str.Parse.{digits_value}
use Rattle.asm_grammar.specs.Text.{◌>>=◌, Text, front_of, behind}
use Rattle.asm_grammar.specs.declared.syntax.Number.{Number}

-- a decimal digit, or a hexadecimal one in lower case
abbrev pub is_digit : ℕ → ℕ → Bool
is_digit base byte = is_in_range (code "0") (code "9") byte || (base == 16) && is_in_range (code "a") (code "f") byte

-- A magnitude of 2^32 or more is in no range that a line has: it stands as 2^32.
abbrev pub held : ℕ → ℕ
held value = min value 4294967296

-- the value of these digits, as it is held, and the text after them; none where there is no digit
abbrev pub numeral_of : ℕ → List ℕ → List ℕ → Text ℕ
numeral_of base [] rest = None
numeral_of base (first ∷ more) rest = Some (held (digits_value base (first ∷ more)), rest)

-- one digit or more
unfoldable pub numeral_at : ℕ → List ℕ → Text ℕ
numeral_at base text = numeral_of base (front_of (is_digit base) text) (behind (is_digit base) text)

-- each byte is a digit
abbrev pub AreDigits : ℕ → List ℕ → Type 0
AreDigits base [] = ⊤
AreDigits base (byte ∷ bytes) = IsTrue (is_digit base byte) × AreDigits base bytes

-- the text begins with `0x`
abbrev pub is_hexadecimal : List ℕ → Bool
is_hexadecimal (first ∷ second ∷ rest) = (first == code "0") && (second == code "x")
is_hexadecimal _ = false

-- a decimal numeral, or `0x` and a hexadecimal one
unfoldable pub magnitude_at : List ℕ → Text ℕ
magnitude_at text = if is_hexadecimal text then numeral_at 16 (drop 2 text) else numeral_at 10 text

-- a number that is zero has no sign
abbrev pub signed : Bool → ℕ → Number
signed minus magnitude = record { negative = minus && not (magnitude == 0); magnitude = magnitude }

-- a magnitude, and the number that it is with a minus before it or without
unfoldable pub signed_at : Bool → List ℕ → Text Number
signed_at minus text = do
  magnitude ← magnitude_at text
  Some (signed minus magnitude.0, magnitude.1)

-- a number: a magnitude, with a `-` before it or without
unfoldable pub spelled_number_at : List ℕ → Text Number
spelled_number_at [] = None
spelled_number_at (first ∷ rest) = if first == code "-" then signed_at true rest else signed_at false (first ∷ rest)
