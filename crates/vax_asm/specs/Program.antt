-- What program a source makes: sizes, labels, bytes; or which line of it is bad.
use Rattle.std.specs.Prelude.{◌≡◌, ◌≤◌, ℕ, ◌+◌, ◌==◌, ◌&&◌, Bool, true, false, not, if◌then◌else◌, nat_le, is_none, is_some, List, [], ◌∷◌, ◌++◌, length, take, drop, replicate, Option, Some, None}
use Rattle.std.specs.Int.{to_le_bytes}
use Rattle.vax_code.specs.declared.table.Row.{Row}
use Rattle.vax_code.specs.declared.instr.Instr.{Instr}
use Rattle.vax_code.specs.declared.instr.Decoded.TheVariants as decodings
use Rattle.vax_code.specs.Table.{slot_in}
use Rattle.vax_code.specs.Operands.{width_of}
use Rattle.vax_code.specs.Reading.{decoded}
use Rattle.asm_grammar.specs.Text.{◌>>=◌}
use Rattle.asm_grammar.specs.Encoding.{or_zero, found, bits_of_value, sentence_bytes, sentence_instruction}
use Rattle.asm_grammar.specs.Lines.{items_in}
use Rattle.asm_grammar.specs.declared.syntax.Label.{Label}
use Rattle.asm_grammar.specs.declared.syntax.Number.{Number}
use Rattle.asm_grammar.specs.declared.syntax.Value.{Value}
use Rattle.asm_grammar.specs.declared.syntax.Place.{Place}
use Rattle.asm_grammar.specs.declared.syntax.Place.TheVariants as places
use Rattle.asm_grammar.specs.declared.syntax.Written.{Written}
use Rattle.asm_grammar.specs.declared.syntax.Written.TheVariants as writtens
use Rattle.asm_grammar.specs.declared.syntax.Sentence.{Sentence}
use Rattle.asm_grammar.specs.declared.syntax.Statement.{Statement}
use Rattle.asm_grammar.specs.declared.syntax.Statement.TheVariants as statements
use Rattle.asm_grammar.specs.declared.syntax.SourceLine.{SourceLine}
use Rattle.asm_grammar.specs.declared.syntax.Definition.{Definition}
use Rattle.vax_asm.specs.declared.answers.Assembled.{Assembled}
use Rattle.vax_asm.specs.declared.answers.Assembled.TheVariants as assemblies

-- ---- sizes, which the form of a line gives

-- how many bytes a displacement has: 1, 2 or 4
abbrev pub number_size : ℕ → ℕ
number_size size = if size == 1 then 1 else (if size == 2 then 2 else 4)

-- how many bytes an operand with an address has: its specifier, and its absolute address or displacement if any
abbrev pub place_size : Place → ℕ
place_size (places.Absolute address) = 5
place_size (places.Disp size reg by deferred) = 1 + number_size size
place_size _ = 1

-- how many bytes an operand has in one of the places 0, 1 and 2 of its row; 0 where it is absent
abbrev pub operand_size : Row → ℕ → Written → ℕ
operand_size row place writtens.Absent = 0
operand_size row place (writtens.Literal number) = 1
operand_size row place (writtens.Register reg) = 1
operand_size row place (writtens.Immediate value) = 1 + (slot_in row place).size
operand_size row place (writtens.Plain base) = place_size base
operand_size row place (writtens.Indexed index base) = 1 + place_size base
operand_size row place (writtens.Misindexed immediate) = 2 + (if immediate then (slot_in row place).size else 0)
operand_size row place (writtens.Target target) = (slot_in row place).size

-- how many bytes an instruction has: one of its opcode, and those of its operands
unfoldable pub sentence_size : Sentence → ℕ
sentence_size sentence = 1 + operand_size sentence.row 0 sentence.a + operand_size sentence.row 1 sentence.b + operand_size sentence.row 2 sentence.c

-- whether a number is 0 to a limit
abbrev pub is_up_to : ℕ → Number → Bool
is_up_to most number = not number.negative && nat_le number.magnitude most

-- a space out of its range has no bytes
unfoldable pub statement_size : Statement → ℕ
statement_size (statements.Byte value) = 1
statement_size (statements.Word value) = 2
statement_size (statements.Long value) = 4
statement_size (statements.Space number) = if is_up_to 65536 number then number.magnitude else 0
statement_size (statements.Bss number) = 0
statement_size (statements.Instruction sentence) = sentence_size sentence

-- how many bytes a statement has; 0 where there is none
abbrev pub optional_size : Option Statement → ℕ
optional_size None = 0
optional_size (Some statement) = statement_size statement

-- a line outside the grammar has no bytes and no label
abbrev pub item_size : Option SourceLine → ℕ
item_size None = 0
item_size (Some line) = optional_size line.statement

-- the address after lines
abbrev pub address_after : List (Option SourceLine) → ℕ
address_after [] = 0
address_after (item ∷ items) = item_size item + address_after items

-- ---- labels

-- the definition of a label at this address, where there is one
abbrev pub optional_definition : ℕ → Option Label → List Definition
optional_definition at None = []
optional_definition at (Some label) = record { label = label; address = at } ∷ []

-- the definition of a line's label at this address; none without a label or outside the grammar
abbrev pub item_definition : ℕ → Option SourceLine → List Definition
item_definition at None = []
item_definition at (Some line) = optional_definition at line.label

-- the labels of lines, the first of which has this address
abbrev pub definitions : ℕ → List (Option SourceLine) → List Definition
definitions at [] = []
definitions at (item ∷ items) = item_definition at item ++ definitions (at + item_size item) items

-- lines after the 4,096th define nothing
unfoldable pub labels_of : List ℕ → List Definition
labels_of source = definitions 0 (take 4096 (items_in source))

-- ---- `.bss`

-- the N of a `.bss`; none of any other statement
abbrev pub bss_in : Option Statement → Option ℕ
bss_in (Some (statements.Bss number)) = Some number.magnitude
bss_in _ = None

-- the N of a line's `.bss`, where it has one
abbrev pub item_bss : Option SourceLine → Option ℕ
item_bss None = None
item_bss (Some line) = bss_in line.statement

-- the first number where there is one, or else the other
abbrev pub first_of : Option ℕ → Option ℕ → Option ℕ
first_of (Some n) other = Some n
first_of None other = other

-- the N of the first `.bss`
abbrev pub bss_found : List (Option SourceLine) → Option ℕ
bss_found [] = None
bss_found (item ∷ items) = first_of (item_bss item) (bss_found items)

-- ---- bytes

-- the bytes of a value, the low one first; none where it is out of range or its label isn't defined
unfoldable pub value_bytes : List Definition → ℕ → Value → Option (List ℕ)
value_bytes labels size value = bits_of_value labels size value >>= λ bits. Some (to_le_bytes (width_of size) bits)

-- the bytes of a statement at an address, where its values are in their ranges; at most one `.bss` is allowed
unfoldable pub statement_bytes : List Definition → Bool → ℕ → Statement → Option (List ℕ)
statement_bytes labels with_bss at (statements.Byte value) = value_bytes labels 1 value
statement_bytes labels with_bss at (statements.Word value) = value_bytes labels 2 value
statement_bytes labels with_bss at (statements.Long value) = value_bytes labels 4 value
statement_bytes labels with_bss at (statements.Space number) = if is_up_to 65536 number then Some (replicate number.magnitude 0) else None
statement_bytes labels with_bss at (statements.Bss number) = if not with_bss && is_up_to 4194304 number then Some [] else None
statement_bytes labels with_bss at (statements.Instruction sentence) = sentence_bytes labels at sentence

-- the bytes of a statement at an address, where there is one; else no bytes
abbrev pub optional_bytes : List Definition → Bool → ℕ → Option Statement → Option (List ℕ)
optional_bytes labels with_bss at None = Some []
optional_bytes labels with_bss at (Some statement) = statement_bytes labels with_bss at statement

-- a program has at most 65,536 bytes
abbrev pub within : ℕ → List ℕ → Option (List ℕ)
within at bytes = if nat_le (at + length bytes) 65536 then Some bytes else None

-- bytes at an address, where a statement has them and they end within a program's limit
abbrev pub bounded : ℕ → Option (List ℕ) → Option (List ℕ)
bounded at bytes = bytes >>= within at

-- a line has no label, or one that no earlier line defines
abbrev pub is_new : List Definition → Option Label → Bool
is_new earlier None = true
is_new earlier (Some label) = is_none (found earlier label)

-- The bytes of a line where it has no fault: its label is new, its statement has bytes there, and these don't bring the
-- program above its limit.
abbrev pub bytes_behind : List Definition → List Definition → Bool → ℕ → SourceLine → Option (List ℕ)
bytes_behind labels earlier with_bss at line =
    if is_new earlier line.label then bounded at (optional_bytes labels with_bss at line.statement) else None

-- the same of a line after others; a line outside the grammar has a fault
unfoldable pub line_bytes : List Definition → List (Option SourceLine) → Option SourceLine → Option (List ℕ)
line_bytes labels before None = None
line_bytes labels before (Some line) =
    bytes_behind labels (definitions 0 before) (is_some (bss_found before)) (address_after before) line

-- the bytes of lines after others, one after another, where no line has a fault
abbrev pub laid : List Definition → List (Option SourceLine) → List (Option SourceLine) → Option (List ℕ)
laid labels before [] = Some []
laid labels before (item ∷ items) = line_bytes labels before item >>= λ own. laid labels (before ++ item ∷ []) items >>= λ others. Some (own ++ others)

-- whether bytes were put after others, where there are any to put
abbrev pub Puts : Bool → List ℕ → Option (List ℕ) → List ℕ → Type 0
Puts true old (Some own) new = new ≡ old ++ own
Puts true old None new = ⊥
Puts false old (Some own) new = ⊥
Puts false old None new = Unit {0}

-- what is put for a `.bss` is in its range
abbrev pub HasSmallBss : Bool → Option Statement → Type 0
HasSmallBss true (Some (statements.Bss number)) = number.magnitude ≤ 4194304
HasSmallBss _ _ = Unit {0}

-- ---- what is assembled

-- The bytes of the line after others stand at its address, and those of an instruction are decoded as the one that it
-- names there.
pub record StandsAt (labels : List Definition) (before : List (Option SourceLine)) (item : Option SourceLine) (bytes : List ℕ) : Type 0 where
  pub own : List ℕ
  pub own_bytes : line_bytes labels before item ≡ Some own
  pub stands : take (length own) (drop (address_after before) bytes) ≡ own
  pub sized : length own ≡ item_size item
  pub decodes : (label : Option Label) (sentence : Sentence)
      → item ≡ Some (record { label = label; statement = Some (statements.Instruction sentence) })
      → (instr : Instr) × (sentence_instruction labels (address_after before) sentence ≡ Some instr)
      × (decoded (drop (address_after before) bytes) ≡ decodings.Is instr)

-- Each line has no fault; its bytes stand at its address, one after another from 0, and nothing stands after the last.
pub record IsProgramOf (source : List ℕ) (bytes : List ℕ) (bss : ℕ) : Type 0 where
  pub few : length (items_in source) ≤ 4096
  pub whole : laid (labels_of source) [] (items_in source) ≡ Some bytes
  pub sized : length bytes ≡ address_after (items_in source)
  pub each : (before : List (Option SourceLine)) (item : Option SourceLine) (others : List (Option SourceLine))
      → items_in source ≡ before ++ item ∷ others → StandsAt (labels_of source) before item bytes
  pub bss_is : bss ≡ or_zero (bss_found (items_in source))

-- Line n, counted from 1, is the lowest bad one: those before it have no fault, and it has one, or stands after 4,096
-- lines.
pub record IsFirstBad (source : List ℕ) (n : ℕ) : Type 0 where
  pub before : List (Option SourceLine)
  pub bad : Option SourceLine
  pub others : List (Option SourceLine)
  pub split : items_in source ≡ before ++ bad ∷ others
  pub number : n ≡ length before + 1
  pub bytes : List ℕ
  pub good : laid (labels_of source) [] before ≡ Some bytes
  pub fault : n ≤ 4096 → line_bytes (labels_of source) before bad ≡ None
  pub limit : n ≤ 4097

-- what assembling a source answers
abbrev pub AssemblesAs : List ℕ → Assembled → Type 0
AssemblesAs source (assemblies.Is program) = IsProgramOf source program.bytes.items program.bss
AssemblesAs source (assemblies.BadLine n) = IsFirstBad source n
