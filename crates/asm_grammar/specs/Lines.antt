-- Reading a line of a source, as a function: a label, and a directive or an instruction. Grammar tells the same as a relation.
use Prim.Native.Char.{code}
use Rattle.std.specs.Prelude.{ℕ, ◌==◌, if◌then◌else◌, List, [], ◌∷◌, codes, map, Option, Some, None}
use Rattle.asm_grammar.specs.Text.{◌>>=◌, Text, behind_byte, front_of, behind}
use Rattle.asm_grammar.specs.Numbers.{spelled_number_at}
use Rattle.asm_grammar.specs.Values.{is_word_byte, label_at, value_at}
use Rattle.asm_grammar.specs.Mnemonics.{same_text}
use Rattle.asm_grammar.specs.Sentences.{sentence_of, ended, is_short}
use Rattle.asm_grammar.specs.declared.syntax.Label.{Label}
use Rattle.asm_grammar.specs.declared.syntax.Value.{Value}
use Rattle.asm_grammar.specs.declared.syntax.Number.{Number}
use Rattle.asm_grammar.specs.declared.syntax.Statement.{Statement}
use Rattle.asm_grammar.specs.declared.syntax.Statement.TheVariants as statements
use Rattle.asm_grammar.specs.declared.syntax.SourceLine.{SourceLine}

-- a value or a number that is the whole text
unfoldable pub whole_value : List ℕ → Option Value
whole_value text = value_at text >>= λ value. ended value.0 value.1

-- the number that the whole text is
unfoldable pub whole_number : List ℕ → Option Number
whole_number text = spelled_number_at text >>= λ number. ended number.0 number.1

-- what follows the `.`: a word, a space, and a value or a number
unfoldable pub directive_by : List ℕ → List ℕ → Option Statement
directive_by word text =
    if same_text word (codes "byte") then (whole_value text >>= λ value. Some (statements.Byte value))
    else (if same_text word (codes "word") then (whole_value text >>= λ value. Some (statements.Word value))
    else (if same_text word (codes "long") then (whole_value text >>= λ value. Some (statements.Long value))
    else (if same_text word (codes "space") then (whole_number text >>= λ number. Some (statements.Space number))
    else (if same_text word (codes "bss") then (whole_number text >>= λ number. Some (statements.Bss number))
    else None))))

-- the directive after the `.`: one of the five words, a space, and its value or number
unfoldable pub directive_of : List ℕ → Option Statement
directive_of text = behind_byte (code " ") (behind is_word_byte text) >>= λ rest. directive_by (front_of is_word_byte text) rest

-- the instruction that the whole text is, as a statement
unfoldable pub instruction_of : List ℕ → Option Statement
instruction_of text = sentence_of text >>= λ sentence. Some (statements.Instruction sentence)

-- the statement that the whole text is: a directive where it begins with `.`, or else an instruction
unfoldable pub statement_of : List ℕ → Option Statement
statement_of [] = None
statement_of (first ∷ rest) = if first == code "." then directive_of rest else instruction_of (first ∷ rest)

-- a label and the `:` after it
unfoldable pub label_before : List ℕ → Text Label
label_before text = do
  label ← label_at text
  rest ← behind_byte (code ":") label.1
  Some (label.0, rest)

-- a line of a statement without a label
abbrev pub unlabelled : Statement → SourceLine
unlabelled statement = record { label = None; statement = Some statement }

-- a line of a label and a statement
abbrev pub labelled : Label → Statement → SourceLine
labelled label statement = record { label = Some label; statement = Some statement }

-- nothing, or a space and a statement
unfoldable pub behind_label : Label → List ℕ → Option SourceLine
behind_label label [] = Some (record { label = Some label; statement = None })
behind_label label (first ∷ rest) = if first == code " " then (statement_of rest >>= λ statement. Some (labelled label statement)) else None

-- a line, by the label that its text begins with and the text after the `:`, or none
abbrev pub by_label : List ℕ → Option (Label × List ℕ) → Option SourceLine
by_label text None = statement_of text >>= λ statement. Some (unlabelled statement)
by_label text (Some label) = behind_label label.0 label.1

-- a line without a label and without a statement
abbrev pub empty_line : SourceLine
empty_line = record { label = None; statement = None }

-- what a line of any length says: nothing where it is empty or begins with `#`; none where it is outside the grammar
unfoldable pub line_by : List ℕ → Option SourceLine
line_by [] = Some empty_line
line_by (first ∷ rest) = if first == code "#" then Some empty_line else by_label (first ∷ rest) (label_before (first ∷ rest))

-- A line is empty, or begins with `#`, or is an optional label, an optional statement, and a space between them.
unfoldable pub line_of : List ℕ → Option SourceLine
line_of text = if is_short text then line_by text else None

-- a byte before lines
abbrev pub put_before : ℕ → List (Option (List ℕ)) → List (Option (List ℕ))
put_before byte [] = None ∷ []
put_before byte (None ∷ lines) = None ∷ lines
put_before byte (Some line ∷ lines) = Some (byte ∷ line) ∷ lines

-- the lines of a source without their line feeds, and none in place of a last line that has no line feed
unfoldable pub lines_in : List ℕ → List (Option (List ℕ))
lines_in [] = []
lines_in (byte ∷ bytes) = if byte == code "\n" then Some [] ∷ lines_in bytes else put_before byte (lines_in bytes)

-- what a line says; none where it is outside the grammar
abbrev pub item_of : Option (List ℕ) → Option SourceLine
item_of line = line >>= line_of

-- what the lines of a source say, in order
unfoldable pub items_in : List ℕ → List (Option SourceLine)
items_in source = map item_of (lines_in source)
