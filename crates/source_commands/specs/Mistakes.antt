-- What stands in a bad line of a source that may not stand there.
use Rattle.std.specs.Prelude.{ℕ, ◌+◌, ◌-◌, ◌==◌, ◌&&◌, ◌||◌, Bool, true, false, not, if◌then◌else◌, nat_lt, nat_le, is_some, option_map, unwrap_or, count_by, get_or, List, [], ◌∷◌, ◌++◌, codes, length, drop, Option, Some, None}
use Rattle.std.specs.Int.{is_in_range}
use Rattle.std.specs.List.{list_any, before_first, after_first}
use Rattle.std.specs.Option.{option_or}
use Rattle.vax_code.specs.declared.table.Row.{Row}
use Rattle.vax_code.specs.Table.{slot_in}
use Rattle.vax_code.specs.Operands.{is_branch}
use Rattle.asm_grammar.specs.Mnemonics.{same_text, row_named}
use Rattle.asm_grammar.specs.Sentences.{sentence_of}
use Rattle.asm_grammar.specs.Lines.{line_of}
use Rattle.asm_grammar.specs.Encoding.{named_instruction}
use Rattle.source_commands.specs.declared.mistakes.Mistake.{Mistake}
use Rattle.source_commands.specs.declared.mistakes.Mistake.TheVariants as mistakes

-- what stands in a line
pub data Why : Type 0 where
  CarriageReturn : Why
  Comment : Why
  Tab : Why
  Unprintable : Why
  SpaceBefore : Why
  SpaceBehind : Why
  NoLabel : (text : List ℕ) → Why
  AfterLabel : Why
  Capital : Why
  NoDirective : (word : List ℕ) → Why
  NoMnemonic : (word : List ℕ) → Why
  SpaceWithin : Why
  NoValue : (directive : List ℕ) → Why
  WrongCount : (mnemonic : List ℕ) → (wanted given : ℕ) → Why
  Missing : Why
  NoTarget : (operand : List ℕ) → Why
  RegisterName : (name : List ℕ) → (number : ℕ) → Why
  NoSize : (operand : List ℕ) → (size : ℕ) → Why
  NoLiteral : (operand : List ℕ) → Why
  ValueAlone : (operand : List ℕ) → Why
  NoOperand : (operand : List ℕ) → Why
  Other : Why

-- what the code answers
abbrev pub why_of : Mistake → Why
why_of mistakes.CarriageReturn = CarriageReturn
why_of mistakes.Comment = Comment
why_of mistakes.Tab = Tab
why_of mistakes.Unprintable = Unprintable
why_of mistakes.SpaceBefore = SpaceBefore
why_of mistakes.SpaceBehind = SpaceBehind
why_of (mistakes.NoLabel text) = NoLabel text.now
why_of mistakes.AfterLabel = AfterLabel
why_of mistakes.Capital = Capital
why_of (mistakes.NoDirective word) = NoDirective word.now
why_of (mistakes.NoMnemonic word) = NoMnemonic word.now
why_of mistakes.SpaceWithin = SpaceWithin
why_of (mistakes.NoValue directive) = NoValue directive.now
why_of (mistakes.WrongCount mnemonic wanted given) = WrongCount mnemonic.now wanted given
why_of mistakes.Missing = Missing
why_of (mistakes.NoTarget operand) = NoTarget operand.now
why_of (mistakes.RegisterName name number) = RegisterName name.now number
why_of (mistakes.NoSize operand size) = NoSize operand.now size
why_of (mistakes.NoLiteral operand) = NoLiteral operand.now
why_of (mistakes.ValueAlone operand) = ValueAlone operand.now
why_of (mistakes.NoOperand operand) = NoOperand operand.now
why_of mistakes.Other = Other

-- ---- texts

-- the text before the first byte of this value, or all of it where there is none
abbrev pub up_to : ℕ → List ℕ → List ℕ
up_to byte text = before_first (λ x. x == byte) text

-- the text after it, or nothing
abbrev pub past : ℕ → List ℕ → List ℕ
past byte text = after_first (λ x. x == byte) text

-- a byte of this value stands in the text
abbrev pub has : ℕ → List ℕ → Bool
has byte text = list_any (λ x. x == byte) text

-- the text begins with a byte of this value
abbrev pub begins : ℕ → List ℕ → Bool
begins byte [] = false
begins byte (first ∷ rest) = first == byte

-- the last byte, 0 where there is none
abbrev pub last_byte : List ℕ → ℕ
last_byte text = get_or text (length text - 1) 0

-- a graphic character of ASCII, or a space
abbrev pub is_printable : ℕ → Bool
is_printable byte = is_in_range 32 126 byte

-- ---- operands

-- an operand of the grammar: one that TSTL may be written with
unfoldable pub is_operand : List ℕ → Bool
is_operand text = is_some (sentence_of (codes "tstl " ++ text))

-- one of the grammar with `i^` before it
unfoldable pub is_immediate : List ℕ → Bool
is_immediate text = is_some (sentence_of (codes "tstl i^" ++ text))

-- the target of a branch
unfoldable pub is_target : List ℕ → Bool
is_target text = is_some (sentence_of (codes "brb " ++ text))

-- an operand that names no label, and is in its range
unfoldable pub is_in_its_range : List ℕ → Bool
is_in_its_range text = is_some (named_instruction (codes "tstl " ++ text) [] 0)

-- the registers to which other assemblers give a name
abbrev pub register_of : List ℕ → Option ℕ
register_of name =
    if same_text name (codes "ap") then Some 12
    else (if same_text name (codes "fp") then Some 13
    else (if same_text name (codes "sp") then Some 14
    else (if same_text name (codes "pc") then Some 15
    else None)))

-- a register by such a name, with its number here
abbrev pub why_name : List ℕ → Option Why
why_name name = option_map (RegisterName name) (register_of name)

-- such a name is the operand, or stands in its parentheses or its brackets
unfoldable pub why_register : List ℕ → Option Why
why_register text =
    option_or (why_name text) (option_or (why_name (up_to 41 (past 40 text))) (why_name (up_to 93 (past 91 text))))

-- the shortest size, `b`, `w` or `l`, with which a text is a displacement, if there is one
unfoldable pub size_for : List ℕ → Option ℕ
size_for text =
    if is_in_its_range (codes "b^" ++ text) then Some 98
    else (if is_in_its_range (codes "w^" ++ text) then Some 119
    else (if is_in_its_range (codes "l^" ++ text) then Some 108
    else None))

-- the text without the star that it begins with, if it does
abbrev pub without_star : List ℕ → List ℕ
without_star text = if begins 42 text then drop 1 text else text

-- a text that is a displacement once it has a size, with the size that it wants
abbrev pub why_displacement : List ℕ → Option Why
why_displacement text = option_map (NoSize text) (size_for text)

-- a value after `$` that is no short literal, and would be taken as an immediate
unfoldable pub why_literal : List ℕ → Option Why
why_literal text =
    if begins 36 text && is_immediate text && not (is_in_its_range text) then Some (NoLiteral text) else None

-- a text that is no operand: a value alone, as a branch has it, or anything else
abbrev pub why_value : List ℕ → Why
why_value text = if is_target text then ValueAlone text else NoOperand text

-- what stands in the place of an operand: the first of these that holds
unfoldable pub why_specifier : List ℕ → Why
why_specifier text =
    unwrap_or (option_or (why_register text) (option_or (why_displacement (without_star text)) (why_literal text))) (why_value text)

-- why a text is no target of a branch, or no other operand; none where it is one
unfoldable pub why_operand : Bool → List ℕ → Option Why
why_operand branch [] = Some Missing
why_operand true (first ∷ rest) = if is_target (first ∷ rest) then None else Some (NoTarget (first ∷ rest))
why_operand false (first ∷ rest) = if is_operand (first ∷ rest) then None else Some (why_specifier (first ∷ rest))

-- ---- statements

-- the operand in front of a text, for a place of the row, if the instruction has one there
abbrev pub why_place : Row → ℕ → List ℕ → Option Why
why_place row place text =
    if nat_lt place row.count then why_operand (is_branch (slot_in row place).access) (up_to 44 text) else None

-- the leftmost operand that isn't one
unfoldable pub why_row : Row → List ℕ → Why
why_row row text =
    unwrap_or (option_or (why_place row 0 text) (option_or (why_place row 1 (past 44 text)) (why_place row 2 (past 44 (past 44 text))))) Other

-- how many operands a statement has, with commas between them, after its first space
abbrev pub operand_count : List ℕ → ℕ
operand_count text = if has 32 text then 1 + count_by (λ x. x == 44) (past 32 text) else 0

-- their number is looked at before what they are
abbrev pub why_operands : Row → List ℕ → Why
why_operands row text =
    if operand_count text == row.count then why_row row (past 32 text) else WrongCount (up_to 32 text) row.count (operand_count text)

-- a statement has one space, after its first word
abbrev pub why_spaced : List ℕ → Why → Why
why_spaced text why = if has 32 (past 32 text) then SpaceWithin else why

-- a word that is a directive of the assembler
abbrev pub is_directive : List ℕ → Bool
is_directive word =
    same_text word (codes ".byte") || same_text word (codes ".word") || same_text word (codes ".long")
    || same_text word (codes ".space") || same_text word (codes ".bss")

-- why a statement with a period before its first word is none
unfoldable pub why_directive : List ℕ → Why
why_directive text =
    if is_directive (up_to 32 text) then why_spaced text (NoValue (up_to 32 text)) else NoDirective (up_to 32 text)

-- by the row of its mnemonic
abbrev pub why_instruction : Option Row → List ℕ → Why
why_instruction None text = NoMnemonic (up_to 32 text)
why_instruction (Some row) text = why_spaced text (why_operands row text)

-- a capital letter of ASCII
abbrev pub is_capital : ℕ → Bool
is_capital byte = is_in_range 65 90 byte

-- why a text is no statement: a capital letter in it first, then its directive or its instruction
unfoldable pub why_statement : List ℕ → Why
why_statement text =
    if list_any is_capital text then Capital
    else (if begins 46 text then why_directive text
    else why_instruction (row_named (up_to 32 text)) text)

-- ---- lines

-- the text of line n, counted from 1; nothing where it isn't there, or has no line feed
unfoldable pub text_of_line : ℕ → List (Option (List ℕ)) → List ℕ
text_of_line n [] = []
text_of_line n (line ∷ lines) = if nat_le n 1 then unwrap_or line [] else text_of_line (n - 1) lines

-- a label is what a line may be with a colon after it
unfoldable pub is_label : List ℕ → Bool
is_label text = is_some (line_of (text ++ codes ":"))

-- one space stands between a label and a statement
abbrev pub why_after_label : List ℕ → Why
why_after_label text = if begins 32 text && not (begins 32 (drop 1 text)) then why_statement (drop 1 text) else AfterLabel

-- why a text with a colon is no line, by what stands before that and after it
abbrev pub why_labelled : List ℕ → List ℕ → Why
why_labelled label rest = if is_label label then why_after_label rest else NoLabel label

-- why a text is no line: its label, or its statement
unfoldable pub why_parts : List ℕ → Why
why_parts text = if has 58 text then why_labelled (up_to 58 text) (past 58 text) else why_statement text

-- Why a line of at most 120 bytes is outside the grammar: the first of these that holds.
unfoldable pub why_outside : List ℕ → Why
why_outside text =
    if last_byte text == 13 then CarriageReturn
    else (if has 35 text then Comment
    else (if has 9 text then Tab
    else (if list_any (λ byte. not (is_printable byte)) text then Unprintable
    else (if begins 32 text then SpaceBefore
    else (if last_byte text == 32 then SpaceBehind
    else why_parts text)))))

-- the operands of a line, after a label, if there is one, and a word
abbrev pub operands_in : List ℕ → List ℕ
operands_in text = past 32 (if has 58 text then past 32 text else text)

-- The first operand of a line that is a literal above 63, or below 0, for which an immediate would do.
unfoldable pub wide_literal_in : List ℕ → Option Why
wide_literal_in text =
    option_or (why_literal (up_to 44 (operands_in text)))
    (option_or (why_literal (up_to 44 (past 44 (operands_in text)))) (why_literal (up_to 44 (past 44 (past 44 (operands_in text))))))
