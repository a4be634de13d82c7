-- Why a line of a source is bad: the first reason, in the order in which they are tried.
use Rattle.std.specs.Prelude.{◌≡◌, ℕ, ◌+◌, ◌-◌, ◌&&◌, Bool, true, false, not, if◌then◌else◌, nat_lt, nat_le, is_none, is_some, List, take, slice_get, Option, Some, None}
use Rattle.std.specs.Option.{option_or}
use Rattle.vax_code.specs.declared.table.Slot.{Slot}
use Rattle.vax_code.specs.declared.table.Row.{Row}
use Rattle.vax_code.specs.Table.{slot_in}
use Rattle.vax_code.specs.Operands.{is_read, is_address, is_branch}
use Rattle.asm_grammar.specs.Text.{◌>>=◌}
use Rattle.asm_grammar.specs.Sentences.{is_short}
use Rattle.asm_grammar.specs.Lines.{lines_in, item_of, items_in}
use Rattle.asm_grammar.specs.Encoding.{value_bits, displacement_bits, found, leaves_index, literal_bytes, target_bytes}
use Rattle.vax_asm.specs.Program.{operand_size, is_up_to, optional_size, address_after, definitions, labels_of, bss_found, IsProgramOf, IsFirstBad}
use Rattle.asm_grammar.specs.declared.syntax.Label.{Label}
use Rattle.asm_grammar.specs.declared.syntax.Number.{Number}
use Rattle.asm_grammar.specs.declared.syntax.Value.{Value}
use Rattle.asm_grammar.specs.declared.syntax.Value.TheVariants as values
use Rattle.asm_grammar.specs.declared.syntax.Place.{Place}
use Rattle.asm_grammar.specs.declared.syntax.Place.TheVariants as places
use Rattle.asm_grammar.specs.declared.syntax.Written.{Written}
use Rattle.asm_grammar.specs.declared.syntax.Written.TheVariants as writtens
use Rattle.asm_grammar.specs.declared.syntax.Sentence.{Sentence}
use Rattle.asm_grammar.specs.declared.syntax.Statement.{Statement}
use Rattle.asm_grammar.specs.declared.syntax.Statement.TheVariants as statements
use Rattle.asm_grammar.specs.declared.syntax.SourceLine.{SourceLine}
use Rattle.asm_grammar.specs.declared.syntax.Definition.{Definition}
use Rattle.vax_asm.specs.declared.answers.Reason.{Reason}
use Rattle.vax_asm.specs.declared.answers.Reason.TheVariants as reasons
use Rattle.vax_asm.specs.declared.answers.BadLine.{BadLine}

-- no reason where something is so, and else this one
abbrev pub unless : Bool → Reason → Option Reason
unless true reason = None
unless false reason = Some reason

-- ---- operands

-- why a label is no value of so many bytes: it isn't defined, or its address is too large
abbrev pub address_reason : ℕ → Label → Option Definition → Option Reason
address_reason size label None = Some (reasons.UnknownLabel label)
address_reason size label (Some definition) =
    unless (is_some (value_bits size (record { negative = false; magnitude = definition.address }))) reasons.ValueOutOfRange

-- why a number or a label is no value of so many bytes
unfoldable pub value_reason : List Definition → ℕ → Value → Option Reason
value_reason labels size (values.Number number) = unless (is_some (value_bits size number)) reasons.ValueOutOfRange
value_reason labels size (values.Label label) = address_reason size label (found labels label)

-- a mode on PC that isn't one
abbrev pub register_reason : ℕ → Option Reason
register_reason reg = unless (nat_lt reg 15) reasons.OperandRefused

-- why an operand that has an address is refused: its register, or a value that is out of range
unfoldable pub place_reason : List Definition → Place → Option Reason
place_reason labels (places.Deferred reg) = register_reason reg
place_reason labels (places.AutoDec reg) = register_reason reg
place_reason labels (places.AutoInc reg) = register_reason reg
place_reason labels (places.AutoIncDef reg) = register_reason reg
place_reason labels (places.Absolute address) = value_reason labels 4 address
place_reason labels (places.Disp size reg by deferred) =
    if nat_lt reg 16 then unless (is_some (displacement_bits size by)) reasons.ValueOutOfRange else Some reasons.OperandRefused

-- why an indexed operand is refused: PC as its index, a base that changes the index, or the base itself
unfoldable pub indexed_reason : List Definition → ℕ → Place → Option Reason
indexed_reason labels index base =
    if nat_lt index 15 && leaves_index index base then place_reason labels base else Some reasons.OperandRefused

-- a target whose value is in its range may be out of the reach of its branch
unfoldable pub target_reason : List Definition → ℕ → Slot → Value → Option Reason
target_reason labels from slot target =
    option_or (value_reason labels 4 target) (unless (is_some (target_bytes labels from slot target)) reasons.BranchOutOfRange)

-- why a branch displacement is refused, which is written as a target
unfoldable pub branch_reason : List Definition → ℕ → Slot → Written → Option Reason
branch_reason labels from slot (writtens.Target target) = target_reason labels from slot target
branch_reason labels from slot _ = Some reasons.OperandRefused

-- why an operand is refused in a slot that takes a specifier, by the slot's access and size
unfoldable pub specifier_reason : List Definition → Slot → Written → Option Reason
specifier_reason labels slot (writtens.Literal number) =
    if is_read slot.access then unless (is_some (literal_bytes number)) reasons.ValueOutOfRange else Some reasons.OperandRefused
specifier_reason labels slot (writtens.Register reg) = if is_address slot.access then Some reasons.OperandRefused else register_reason reg
specifier_reason labels slot (writtens.Immediate value) =
    if is_read slot.access then value_reason labels slot.size value else Some reasons.OperandRefused
specifier_reason labels slot (writtens.Plain place) = place_reason labels place
specifier_reason labels slot (writtens.Indexed index base) = indexed_reason labels index base
specifier_reason labels slot writtens.Absent = Some reasons.OperandRefused
specifier_reason labels slot (writtens.Misindexed immediate) = Some reasons.OperandRefused
specifier_reason labels slot (writtens.Target target) = Some reasons.OperandRefused

-- why an operand is refused where the instruction has none
abbrev pub absent_reason : Written → Option Reason
absent_reason writtens.Absent = None
absent_reason _ = Some reasons.OperandRefused

-- why an operand whose first byte would have this address is refused
unfoldable pub operand_reason : List Definition → ℕ → Row → ℕ → Written → Option Reason
operand_reason labels from row place written =
    if nat_lt place row.count then
    (if is_branch (slot_in row place).access then branch_reason labels from (slot_in row place) written
    else specifier_reason labels (slot_in row place) written)
    else absent_reason written

-- ---- lines

-- the operands from the left on
unfoldable pub sentence_reason : List Definition → ℕ → Sentence → Option Reason
sentence_reason labels at sentence =
    option_or (operand_reason labels (at + 1) sentence.row 0 sentence.a)
    (option_or (operand_reason labels (at + 1 + operand_size sentence.row 0 sentence.a) sentence.row 1 sentence.b)
    (operand_reason labels (at + 1 + operand_size sentence.row 0 sentence.a + operand_size sentence.row 1 sentence.b) sentence.row 2 sentence.c))

-- a second `.bss` is told as such where its number is in its range
abbrev pub bss_reason : Bool → Number → Option Reason
bss_reason with_bss number =
    option_or (unless (is_up_to 4194304 number) reasons.ValueOutOfRange) (unless (not with_bss) reasons.SecondBss)

-- why a statement at this address is bad, where a `.bss` stands before it or not
unfoldable pub statement_reason : List Definition → Bool → ℕ → Statement → Option Reason
statement_reason labels with_bss at (statements.Byte value) = value_reason labels 1 value
statement_reason labels with_bss at (statements.Word value) = value_reason labels 2 value
statement_reason labels with_bss at (statements.Long value) = value_reason labels 4 value
statement_reason labels with_bss at (statements.Space number) = unless (is_up_to 65536 number) reasons.ValueOutOfRange
statement_reason labels with_bss at (statements.Bss number) = bss_reason with_bss number
statement_reason labels with_bss at (statements.Instruction sentence) = sentence_reason labels at sentence

-- why the statement of a line is bad, if it has one
abbrev pub optional_reason : List Definition → Bool → ℕ → Option Statement → Option Reason
optional_reason labels with_bss at None = None
optional_reason labels with_bss at (Some statement) = statement_reason labels with_bss at statement

-- why the label of a line, if it has one, is bad: an earlier line defines it too
abbrev pub label_reason : List Definition → Option Label → Option Reason
label_reason earlier None = None
label_reason earlier (Some label) = unless (is_none (found earlier label)) (reasons.LabelTwice label)

-- The reason of a line of the grammar: its label is looked at first, then its statement, then its size.
unfoldable pub line_reason : List Definition → List Definition → Bool → ℕ → SourceLine → Option Reason
line_reason labels earlier with_bss at line =
    option_or (label_reason earlier line.label)
    (option_or (optional_reason labels with_bss at line.statement) (unless (nat_le (at + optional_size line.statement) 65536) reasons.ProgramTooLong))

-- the reason of a line outside the grammar
abbrev pub outside_reason : Option (List ℕ) → Reason
outside_reason None = reasons.NoLineFeed
outside_reason (Some text) = if is_short text then reasons.NotStatement else reasons.LineTooLong

-- why a line is bad, by what it says: that it is outside the grammar, or its own reason at its address
abbrev pub reason_by : List Definition → List (Option SourceLine) → Option (List ℕ) → Option SourceLine → Option Reason
reason_by labels before text None = Some (outside_reason text)
reason_by labels before text (Some line) =
    line_reason labels (definitions 0 before) (is_some (bss_found before)) (address_after before) line

-- Why a line after others is bad, by the labels that are defined; none where it is good.
unfoldable pub reason_behind : List Definition → List (Option SourceLine) → Option (List ℕ) → Option Reason
reason_behind labels before text = reason_by labels before text (item_of text)

-- Why line n of a source is bad, counted from 1; none where it is good, or isn't there.
unfoldable pub reason_of : List ℕ → ℕ → Option Reason
reason_of source n =
    if nat_le n 4096 then (slice_get (lines_in source) (n - 1) >>= λ text. reason_behind (labels_of source) (take (n - 1) (items_in source)) text)
    else Some reasons.TooManyLines

-- ---- what is explained

-- a source is a program, or the lowest bad line of it is this one, for its reason
abbrev pub ExplainsAs : List ℕ → Option BadLine → Type 0
ExplainsAs source None = (bytes : List ℕ) × (bss : ℕ) × IsProgramOf source bytes bss
ExplainsAs source (Some bad) = IsFirstBad source bad.number × (reason_of source bad.number ≡ Some bad.reason)
