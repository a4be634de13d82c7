-- Why a source is bad, as a line of text.
use Rattle.std.specs.Prelude.{◌≡◌, ◌==◌, ℕ, if◌then◌else◌, List, [], ◌∷◌, ◌++◌, codes, decimal, Option, Some, None, Ok, Err}
use Rattle.io_edge.specs.FileHolding.{NamedFile}
use Rattle.vax_asm.specs.Values.{label_name}
use Rattle.vax_asm.specs.Reasons.{ExplainsAs}
use Rattle.asm_grammar.specs.Mnemonics.{same_text}
use Rattle.asm_grammar.specs.Lines.{lines_in}
use Rattle.asm_grammar.specs.declared.syntax.Label.{Label}
use Rattle.source_commands.specs.Mistakes.{Why, CarriageReturn, Comment, Tab, Unprintable, SpaceBefore, SpaceBehind, NoLabel, AfterLabel, Capital, NoDirective, NoMnemonic, SpaceWithin, NoValue, WrongCount, Missing, NoTarget, RegisterName, NoSize, NoLiteral, ValueAlone, NoOperand, Other, why_outside, wide_literal_in, text_of_line}
use Rattle.vax_asm.specs.declared.answers.Reason.{Reason}
use Rattle.vax_asm.specs.declared.answers.Reason.TheVariants.{NoLineFeed, TooManyLines, LineTooLong, NotStatement, LabelTwice, UnknownLabel, ValueOutOfRange, BranchOutOfRange, OperandRefused, SecondBss, ProgramTooLong}
use Rattle.vax_asm.specs.declared.answers.BadLine.{BadLine}
use Rattle.command_edge.specs.declared.answers.Unread.{Unread}
use Rattle.command_edge.specs.declared.answers.Unread.TheVariants.{Absent, NotImage, FileFault, NoMemory}
use Rattle.command_edge.specs.Told.{bytes_told}
use Rattle.source_commands.specs.Command.{source_bytes}

-- a label between two texts
abbrev pub around_label : List ℕ → Label → List ℕ → List ℕ
around_label before label behind = before ++ label_name label.bytes ++ behind

-- a number of operands, in words
abbrev pub count_text : ℕ → List ℕ
count_text count =
    if count == 0 then codes "no operand" else (if count == 1 then codes "1 operand" else decimal count ++ codes " operands")

-- what a directive takes
abbrev pub taken_text : List ℕ → List ℕ
taken_text directive =
    if same_text directive (codes ".space") then codes "one number"
    else (if same_text directive (codes ".bss") then codes "one number" else codes "one number or label")

-- why a line is outside the grammar
abbrev pub why_text : Why → List ℕ
why_text CarriageReturn = codes "a carriage return stands before the line feed"
why_text Comment = codes "a comment has a line of its own, which begins with #"
why_text Tab = codes "a tab stands in the line"
why_text Unprintable = codes "a byte stands in the line that is no printable ASCII"
why_text SpaceBefore = codes "a space stands at the beginning of the line"
why_text SpaceBehind = codes "a space stands at the end of the line"
why_text (NoLabel text) = text ++ codes " is no label: 1 to 16 of a to z, _ and digits, no digit first"
why_text AfterLabel = codes "one space stands between a label and its statement"
why_text Capital = codes "a capital letter stands in the statement"
why_text (NoDirective word) = codes "unknown directive " ++ word ++ codes ": .byte, .word, .long, .space or .bss"
why_text (NoMnemonic word) = codes "unknown mnemonic " ++ word
why_text SpaceWithin = codes "a statement has one space, after its first word"
why_text (NoValue directive) = directive ++ codes " takes " ++ taken_text directive
why_text (WrongCount mnemonic wanted given) = mnemonic ++ codes " takes " ++ count_text wanted ++ codes ", not " ++ decimal given
why_text Missing = codes "an operand is missing beside a comma"
why_text (NoTarget operand) = operand ++ codes " is no target of a branch: a label or a number"
why_text (RegisterName name number) = name ++ codes " is no name of a register: write r" ++ decimal number
why_text (NoSize operand size) = operand ++ codes " has no size: write " ++ size ∷ codes "^" ++ operand
why_text (NoLiteral operand) = operand ++ codes " is no short literal, 0 to 63: write i^" ++ operand
why_text (ValueAlone operand) = operand ++ codes " is the target of a branch: write i^$ before it for the value, *$ for what is there"
why_text (NoOperand operand) = operand ++ codes " is no operand"
why_text Other = codes "not a statement"

-- what may be written in the place of a value out of its range
abbrev pub advice_text : Option Why → List ℕ
advice_text None = []
advice_text (Some why) = codes ": " ++ why_text why

-- why a line of this text is bad
abbrev pub reason_text : List ℕ → Reason → List ℕ
reason_text line NoLineFeed = codes "the last line has no line feed"
reason_text line TooManyLines = codes "too many lines"
reason_text line LineTooLong = codes "line too long"
reason_text line NotStatement = why_text (why_outside line)
reason_text line (LabelTwice label) = around_label (codes "label ") label (codes " is defined twice")
reason_text line (UnknownLabel label) = around_label (codes "unknown label ") label []
reason_text line ValueOutOfRange = codes "value out of range" ++ advice_text (wide_literal_in line)
reason_text line BranchOutOfRange = codes "branch out of range"
reason_text line OperandRefused = codes "operand refused"
reason_text line SecondBss = codes ".bss stands twice"
reason_text line ProgramTooLong = codes "program too long"

-- the line that tells why the bad line of a source is bad
abbrev pub explanation : List ℕ → BadLine → List ℕ
explanation source bad =
    codes "vmrun: line " ++ decimal bad.number ++ codes ": " ++ reason_text (text_of_line bad.number (lines_in source)) bad.reason ++ 10 ∷ []

-- nothing is told of a source that is a program, and else why its lowest bad line is bad
abbrev pub Explained : List ℕ → Option (List ℕ) → Type 0
Explained source None = ExplainsAs source None
Explained source (Some text) = (bad : BadLine) × ExplainsAs source (Some bad) × (text ≡ explanation source bad)

-- what is told of the source of this name, by its first `source_bytes` bytes
pub record ExplainsSource (name : List ℕ) (holds : Option (List NamedFile)) (text : Option (List ℕ)) : Type 0 where
  pub source : List ℕ
  pub is_told : (files : List NamedFile) → holds ≡ Some files → Ok source ≡ bytes_told files name source_bytes
  pub explained : Explained source text

-- no reason is told: there is no source of this name, or a file failed, or memory was refused
abbrev pub LacksSource : List ℕ → Option (List NamedFile) → Unread → Type 0
LacksSource name holds Absent = (files : List NamedFile) → holds ≡ Some files → bytes_told files name source_bytes ≡ Err Absent
LacksSource name holds (NotImage reason) = ⊥
LacksSource name holds FileFault = Unit {0}
LacksSource name holds NoMemory = Unit {0}
