-- Reading an instruction: its mnemonic, and then an operand for each place of its row.
use Prim.Native.Char.{code}
use Rattle.std.specs.Prelude.{ℕ, ◌==◌, Bool, if◌then◌else◌, nat_lt, nat_le, List, [], ◌∷◌, length, Option, Some, None}
use Rattle.vax_code.specs.declared.table.Row.{Row}
use Rattle.vax_code.specs.Table.{slot_in}
use Rattle.vax_code.specs.Operands.{is_branch}
use Rattle.asm_grammar.specs.Text.{◌>>=◌, Text, behind_byte, front_of, behind}
use Rattle.asm_grammar.specs.Values.{is_word_byte}
use Rattle.asm_grammar.specs.Operands.{operand_at}
use Rattle.asm_grammar.specs.Mnemonics.{row_named}
use Rattle.asm_grammar.specs.declared.syntax.Written.{Written}
use Rattle.asm_grammar.specs.declared.syntax.Written.TheVariants as writtens
use Rattle.asm_grammar.specs.declared.syntax.Sentence.{Sentence}

-- what stands before an operand: a space before the first one, and a comma before each other
abbrev pub separator : ℕ → ℕ
separator place = if place == 0 then code " " else code ","

-- the operand in one of the places 0, 1 and 2 of the row, or nothing where the instruction has none there
unfoldable pub place_of_row_at : Row → ℕ → List ℕ → Text Written
place_of_row_at row place text =
    if nat_lt place row.count then (behind_byte (separator place) text >>= λ operand. operand_at (is_branch (slot_in row place).access) operand)
    else Some (writtens.Absent, text)

-- what was read, where no text is left after it
abbrev pub ended : {A : Type 0} → A → List ℕ → Option A
ended x [] = Some x
ended x (byte ∷ bytes) = None

-- the instruction of this row whose operands are the whole text after the mnemonic
unfoldable pub operands_at : Row → List ℕ → Option Sentence
operands_at row text = do
  a ← place_of_row_at row 0 text
  b ← place_of_row_at row 1 a.1
  c ← place_of_row_at row 2 b.1
  ended (record { row = row; a = a.0; b = b.0; c = c.0 }) c.1

-- the instruction that the whole text is
unfoldable pub sentence_of : List ℕ → Option Sentence
sentence_of text = do
  row ← row_named (front_of is_word_byte text)
  operands_at row (behind is_word_byte text)

-- a line has at most 120 bytes
abbrev pub is_short : List ℕ → Bool
is_short text = nat_le (length text) 120
