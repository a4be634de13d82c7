-- The bytes that operands and instructions have, and the instruction that a text names.
use Rattle.std.specs.Prelude.{◌≡◌, ℕ, ◌+◌, ◌-◌, ◌%◌, ◌==◌, ◌&&◌, ◌||◌, Bool, true, false, not, if◌then◌else◌, nat_lt, nat_le, find, List, [], ◌∷◌, ◌++◌, length, Option, Some, None, ℤ, pos, neg_ℤ}
use Rattle.std.specs.Int.{to_le_bytes, cast_signed, w32}
use Rattle.vax_code.specs.declared.table.Slot.{Slot}
use Rattle.vax_code.specs.declared.table.Row.{Row}
use Rattle.vax_code.specs.declared.instr.Base.{Base}
use Rattle.vax_code.specs.declared.instr.Base.TheVariants as bases
use Rattle.vax_code.specs.declared.instr.Operand.{Operand}
use Rattle.vax_code.specs.declared.instr.Operand.TheVariants as operands
use Rattle.vax_code.specs.declared.instr.Instr.{Instr}
use Rattle.vax_code.specs.Table.{slot_in}
use Rattle.vax_code.specs.Operands.{width_of, is_read, is_address, is_branch, operand_of, assembled}
use Rattle.vax_code.specs.Grammar.{specifier, spelled}
use Rattle.asm_grammar.specs.Text.{◌>>=◌}
use Rattle.asm_grammar.specs.Mnemonics.{same_text}
use Rattle.asm_grammar.specs.Sentences.{sentence_of, is_short}
use Rattle.vax_code.specs.declared.instr.Decoded.TheVariants as decodings
use Rattle.vax_code.specs.Reading.{decoded}
use Rattle.asm_grammar.specs.declared.syntax.Number.{Number}
use Rattle.asm_grammar.specs.declared.syntax.Label.{Label}
use Rattle.asm_grammar.specs.declared.syntax.Value.{Value}
use Rattle.asm_grammar.specs.declared.syntax.Value.TheVariants as values
use Rattle.asm_grammar.specs.declared.syntax.Place.{Place}
use Rattle.asm_grammar.specs.declared.syntax.Place.TheVariants as places
use Rattle.asm_grammar.specs.declared.syntax.Written.{Written}
use Rattle.asm_grammar.specs.declared.syntax.Written.TheVariants as writtens
use Rattle.asm_grammar.specs.declared.syntax.Sentence.{Sentence}
use Rattle.asm_grammar.specs.declared.syntax.Definition.{Definition}

-- ---- numbers in 1, 2 or 4 bytes

-- how many numbers so many bytes hold, and half of that
abbrev pub whole_of : ℕ → ℕ
whole_of size = if size == 1 then 256 else (if size == 2 then 65536 else 4294967296)

-- half of how many numbers 1, 2 or 4 bytes hold
abbrev pub half_of : ℕ → ℕ
half_of size = if size == 1 then 128 else (if size == 2 then 32768 else 2147483648)

-- In two's complement. A value of so many bytes is at least minus the half and below the whole.
unfoldable pub value_bits : ℕ → Number → Option ℕ
value_bits size number =
    if number.negative then (if nat_le number.magnitude (half_of size) then Some ((whole_of size - number.magnitude) % whole_of size) else None)
    else (if nat_lt number.magnitude (whole_of size) then Some number.magnitude else None)

-- A displacement is at least minus the half and below the half.
unfoldable pub displacement_bits : ℕ → Number → Option ℕ
displacement_bits size number =
    if number.negative || nat_lt number.magnitude (half_of size) then value_bits size number else None

-- the number as a signed one
abbrev pub as_signed : Number → ℤ
as_signed number = if number.negative then neg_ℤ (pos number.magnitude) else pos number.magnitude

-- ---- labels

-- what a value is, by the labels that are defined
unfoldable pub found : List Definition → Label → Option Definition
found labels label = find (λ definition. same_text definition.label.bytes label.bytes) labels

-- the number that a value is: a label is its address, and none where it isn't defined
unfoldable pub number_of_value : List Definition → Value → Option Number
number_of_value labels (values.Number number) = Some number
number_of_value labels (values.Label label) = found labels label >>= λ definition. Some (record { negative = false; magnitude = definition.address })

-- the bits of a value in so many bytes; none where it is out of range or its label isn't defined
unfoldable pub bits_of_value : List Definition → ℕ → Value → Option ℕ
bits_of_value labels size value = number_of_value labels value >>= value_bits size

-- ---- operands

-- the specifier of a mode on a register that isn't PC
abbrev pub plain_specifier : ℕ → ℕ → Option (List ℕ)
plain_specifier mode reg = if nat_lt reg 15 then Some (specifier mode reg ∷ []) else None

-- a number after a specifier
abbrev pub with_number : ℕ → ℕ → ℕ → List ℕ
with_number first size bits = first ∷ to_le_bytes (width_of size) bits

-- the mode of a displacement
abbrev pub displacement_mode : ℕ → Bool → ℕ
displacement_mode size deferred = (if size == 1 then 10 else (if size == 2 then 12 else 14)) + (if deferred then 1 else 0)

-- a displacement of so many bytes on a register, deferred or not: its specifier, and the number where it is in range
unfoldable pub displaced_bytes : ℕ → ℕ → Number → Bool → Option (List ℕ)
displaced_bytes size reg by deferred =
    displacement_bits size by >>= λ bits. Some (with_number (specifier (displacement_mode size deferred) reg) size bits)

-- the bytes of an operand that has an address; none where its register or its number isn't one that it may have
unfoldable pub place_bytes : List Definition → Place → Option (List ℕ)
place_bytes labels (places.Deferred reg) = plain_specifier 6 reg
place_bytes labels (places.AutoDec reg) = plain_specifier 7 reg
place_bytes labels (places.AutoInc reg) = plain_specifier 8 reg
place_bytes labels (places.AutoIncDef reg) = plain_specifier 9 reg
place_bytes labels (places.Absolute address) = bits_of_value labels 4 address >>= λ bits. Some (with_number 159 4 bits)
place_bytes labels (places.Disp size reg by deferred) =
    if nat_lt reg 16 then displaced_bytes size reg by deferred else None

-- an index may not be added to a base that changes its register
abbrev pub leaves_index : ℕ → Place → Bool
leaves_index index (places.AutoDec reg) = not (reg == index)
leaves_index index (places.AutoInc reg) = not (reg == index)
leaves_index index (places.AutoIncDef reg) = not (reg == index)
leaves_index index _ = true

-- the specifier of an index, which isn't PC nor a register that the base changes, and the bytes of the base
unfoldable pub indexed_bytes : List Definition → ℕ → Place → Option (List ℕ)
indexed_bytes labels index base =
    if nat_lt index 15 && leaves_index index base then (place_bytes labels base >>= λ bytes. Some (specifier 4 index ∷ bytes)) else None

-- a short literal is 0 to 63
abbrev pub literal_bytes : Number → Option (List ℕ)
literal_bytes number = if not number.negative && nat_lt number.magnitude 64 then Some (number.magnitude ∷ []) else None

-- mode 8 on PC, and a value in as many bytes as the slot's size, where it is in range
unfoldable pub immediate_bytes : List Definition → Slot → Value → Option (List ℕ)
immediate_bytes labels slot value = bits_of_value labels slot.size value >>= λ bits. Some (with_number 143 slot.size bits)

-- from the end of a branch to its target, modulo 2^32
abbrev pub distance : ℕ → ℕ → ℕ
distance target end = (target + (4294967296 - end % 4294967296)) % 4294967296

-- the low bytes of a distance that is signed in so many bytes
abbrev pub branch_bits : ℕ → ℕ → Option ℕ
branch_bits size by =
    if nat_lt by (half_of size) then Some by
    else (if nat_le (4294967296 - half_of size) by then Some (by - (4294967296 - whole_of size)) else None)

-- A branch is the last operand of its instruction, so its end is the instruction's.
unfoldable pub target_bytes : List Definition → ℕ → Slot → Value → Option (List ℕ)
target_bytes labels from slot target = do
  address ← bits_of_value labels 4 target
  bits ← branch_bits slot.size (distance address (from + slot.size))
  Some (to_le_bytes (width_of slot.size) bits)

-- the bytes of an operand in a branch's slot, the first at this address: only a target within reach has some
unfoldable pub branch_bytes : List Definition → ℕ → Slot → Written → Option (List ℕ)
branch_bytes labels from slot (writtens.Target target) = target_bytes labels from slot target
branch_bytes labels from slot _ = None

-- the bytes of an operand with a specifier, where the slot's access takes it and it is in its range
unfoldable pub specifier_bytes : List Definition → Slot → Written → Option (List ℕ)
specifier_bytes labels slot (writtens.Literal number) = if is_read slot.access then literal_bytes number else None
specifier_bytes labels slot (writtens.Register reg) = if is_address slot.access then None else plain_specifier 5 reg
specifier_bytes labels slot (writtens.Immediate value) = if is_read slot.access then immediate_bytes labels slot value else None
specifier_bytes labels slot (writtens.Plain place) = place_bytes labels place
specifier_bytes labels slot (writtens.Indexed index base) = indexed_bytes labels index base
specifier_bytes labels slot writtens.Absent = None
specifier_bytes labels slot (writtens.Misindexed immediate) = None
specifier_bytes labels slot (writtens.Target target) = None

-- after the row's last operand only an absent one may stand, which has no bytes
abbrev pub absent_bytes : Written → Option (List ℕ)
absent_bytes writtens.Absent = Some []
absent_bytes _ = None

-- the bytes of an operand whose first byte has this address, where its place of the row takes it and it is in its range
unfoldable pub operand_bytes : List Definition → ℕ → Row → ℕ → Written → Option (List ℕ)
operand_bytes labels from row place written =
    if nat_lt place row.count then
    (if is_branch (slot_in row place).access then branch_bytes labels from (slot_in row place) written
    else specifier_bytes labels (slot_in row place) written)
    else absent_bytes written

-- the bytes of an instruction at an address
unfoldable pub sentence_bytes : List Definition → ℕ → Sentence → Option (List ℕ)
sentence_bytes labels at sentence = do
  a ← operand_bytes labels (at + 1) sentence.row 0 sentence.a
  b ← operand_bytes labels (at + 1 + length a) sentence.row 1 sentence.b
  c ← operand_bytes labels (at + 1 + length a + length b) sentence.row 2 sentence.c
  Some (sentence.row.op ∷ (a ++ (b ++ c)))

-- ---- the operands that are named

-- the bits of a value, where it has some
abbrev pub or_zero : Option ℕ → ℕ
or_zero (Some bits) = bits
or_zero None = 0

-- the base that a written place names; an absolute address whose value has no bits counts as 0
abbrev pub named_base : List Definition → Place → Base
named_base labels (places.Deferred reg) = bases.Deferred reg
named_base labels (places.AutoDec reg) = bases.AutoDec reg
named_base labels (places.AutoInc reg) = bases.AutoInc reg
named_base labels (places.AutoIncDef reg) = bases.AutoIncDef reg
named_base labels (places.Absolute address) = bases.Absolute (or_zero (bits_of_value labels 4 address))
named_base labels (places.Disp size reg by deferred) = bases.Disp reg (as_signed by) deferred

-- the operand that a written one names in its slot, the first byte at this address; the filler where it names none
abbrev pub named_operand : List Definition → ℕ → Slot → Written → Operand
named_operand labels from slot writtens.Absent = operands.Literal 0
named_operand labels from slot (writtens.Literal number) = operands.Literal number.magnitude
named_operand labels from slot (writtens.Register reg) = operands.Register reg
named_operand labels from slot (writtens.Immediate value) = operands.Immediate (or_zero (bits_of_value labels slot.size value))
named_operand labels from slot (writtens.Plain place) = operand_of (named_base labels place)
named_operand labels from slot (writtens.Indexed index base) = operands.Indexed index (named_base labels base)
named_operand labels from slot (writtens.Misindexed immediate) = operands.Literal 0
named_operand labels from slot (writtens.Target target) =
    operands.Branch (cast_signed w32 (distance (or_zero (bits_of_value labels 4 target)) (from + slot.size)))

-- the instruction that is named at an address
unfoldable pub sentence_instruction : List Definition → ℕ → Sentence → Option Instr
sentence_instruction labels at sentence = do
  a ← operand_bytes labels (at + 1) sentence.row 0 sentence.a
  b ← operand_bytes labels (at + 1 + length a) sentence.row 1 sentence.b
  c ← operand_bytes labels (at + 1 + length a + length b) sentence.row 2 sentence.c
  Some (assembled sentence.row.op sentence.row
      (spelled (named_operand labels (at + 1) (slot_in sentence.row 0) sentence.a) a)
      (spelled (named_operand labels (at + 1 + length a) (slot_in sentence.row 1) sentence.b) b)
      (spelled (named_operand labels (at + 1 + length a + length b) (slot_in sentence.row 2) sentence.c) c))

-- The instruction that a text of at most 120 bytes names at an address, by the labels that are defined; none where it
-- is no instruction of the grammar in its ranges.
unfoldable pub named_instruction : List ℕ → List Definition → ℕ → Option Instr
named_instruction text labels at =
    if is_short text then (sentence_of text >>= λ sentence. sentence_instruction labels at sentence) else None

-- and the bytes that it has there
unfoldable pub named_bytes : List ℕ → List Definition → ℕ → Option (List ℕ)
named_bytes text labels at =
    if is_short text then (sentence_of text >>= λ sentence. sentence_bytes labels at sentence) else None

-- The bytes are those of the instruction that the line names, and decoding gives it back.
pub record IsCodeOf (line : List ℕ) (labels : List Definition) (at : ℕ) (bytes : List ℕ) : Type 0 where
  pub instr : Instr
  pub named : named_instruction line labels at ≡ Some instr
  pub bytes_named : named_bytes line labels at ≡ Some bytes
  pub decodes : decoded bytes ≡ decodings.Is instr
  pub sized : length bytes ≡ instr.length
