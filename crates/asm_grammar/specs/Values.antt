-- Reading labels, and values, which are numbers or labels. A label stands in sixteen bytes.
use Prim.Native.Char.{code}
use Rattle.std.specs.Prelude.{ℕ, ◌==◌, ◌&&◌, ◌||◌, Bool, if◌then◌else◌, nat_le, List, [], ◌∷◌, ◌++◌, length, drop, replicate, Some, None}
use Rattle.std.specs.Int.{is_in_range}
use Rattle.asm_grammar.specs.Text.{◌>>=◌, Text, front_of, behind}
use Rattle.asm_grammar.specs.Numbers.{spelled_number_at}
use Rattle.asm_grammar.specs.declared.syntax.Label.{Label}
use Rattle.asm_grammar.specs.declared.syntax.Value.{Value}
use Rattle.asm_grammar.specs.declared.syntax.Value.TheVariants as values

-- a letter in lower case or `_`, with which a label begins
abbrev pub is_label_start : ℕ → Bool
is_label_start byte = is_in_range (code "a") (code "z") byte || (byte == code "_")

-- a letter in lower case, `_` or a digit
abbrev pub is_word_byte : ℕ → Bool
is_word_byte byte = is_label_start byte || is_in_range (code "0") (code "9") byte

-- a label is kept in 16 bytes, with zeros after it
abbrev pub padded : List ℕ → List ℕ
padded word = word ++ drop (length word) (replicate 16 0)

-- the bytes of a label without the zeros
abbrev pub label_name : List ℕ → List ℕ
label_name bytes = front_of is_word_byte bytes

-- the label that a word is, and the text after it; none where it begins with a digit or hasn't 1 to 16 bytes
abbrev pub label_of_word : List ℕ → List ℕ → Text Label
label_of_word [] rest = None
label_of_word (first ∷ more) rest =
    if is_label_start first && nat_le (length (first ∷ more)) 16 then Some (record { bytes = padded (first ∷ more) }, rest)
    else None

-- a label has 1 to 16 bytes
unfoldable pub label_at : List ℕ → Text Label
label_at text = label_of_word (front_of is_word_byte text) (behind is_word_byte text)

-- a value that is a label
unfoldable pub value_label_at : List ℕ → Text Value
value_label_at text = label_at text >>= λ label. Some (values.Label label.0, label.1)

-- a value that is a number
unfoldable pub value_number_at : List ℕ → Text Value
value_number_at text = spelled_number_at text >>= λ number. Some (values.Number number.0, number.1)

-- a value: a label where the text begins with the first byte of one, or else a number
unfoldable pub value_at : List ℕ → Text Value
value_at [] = None
value_at (first ∷ rest) = if is_label_start first then value_label_at (first ∷ rest) else value_number_at (first ∷ rest)
