-- The text of the instruction that some bytes begin with.
use Rattle.std.specs.Prelude.{◌≡◌, ◌≢◌, ◌≤◌, ℕ, zero, suc, ◌+◌, ◌-◌, ◌*◌, ◌/◌, ◌%◌, ◌==◌, ◌&&◌, ◌||◌, Bool, true, false, if◌then◌else◌, nat_lt, List, [], ◌∷◌, ◌++◌, codes, length, take, drop, Some, None}
use Rattle.std.specs.Int.{from_le_bytes}
use Rattle.vax_code.specs.declared.table.Slot.{Slot}
use Rattle.vax_code.specs.declared.table.Row.{Row}
use Rattle.vax_code.specs.declared.instr.Instr.{Instr}
use Rattle.vax_code.specs.declared.instr.Decoded.TheVariants as decodings
use Rattle.vax_code.specs.Table.{row_for, slot_in}
use Rattle.vax_code.specs.Operands.{width_of, is_read, is_address, is_branch}
use Rattle.vax_code.specs.Reading.{decoded}
use Rattle.asm_grammar.specs.Text.{◌>>=◌, Text}
use Rattle.asm_grammar.specs.Mnemonics.{mnemonic}
use Rattle.asm_grammar.specs.Sentences.{separator}
use Rattle.asm_grammar.specs.Encoding.{whole_of, half_of, IsCodeOf}
use Rattle.asm_grammar.specs.Grammar.{IsInstructionText}
use Rattle.vax_disasm.specs.declared.disassembly.Shown.{Shown}
use Rattle.vax_disasm.specs.declared.disassembly.Shown.TheVariants as shownings
use Rattle.asm_grammar.specs.declared.syntax.Number.{Number}
use Rattle.asm_grammar.specs.declared.syntax.Value.{Value}
use Rattle.asm_grammar.specs.declared.syntax.Value.TheVariants as values
use Rattle.asm_grammar.specs.declared.syntax.Place.{Place}
use Rattle.asm_grammar.specs.declared.syntax.Place.TheVariants as places
use Rattle.asm_grammar.specs.declared.syntax.Written.{Written}
use Rattle.asm_grammar.specs.declared.syntax.Written.TheVariants as writtens
use Rattle.asm_grammar.specs.declared.syntax.Sentence.{Sentence}

-- ---- what the bytes say

-- the next byte
unfoldable pub byte_shown : List ℕ → Text ℕ
byte_shown [] = None
byte_shown (byte ∷ rest) = Some (byte, rest)

-- a number of 1, 2 or 4 bytes, the low one first
unfoldable pub number_shown : ℕ → List ℕ → Text ℕ
number_shown size bytes =
    if nat_lt (length bytes) size then None else Some (from_le_bytes (width_of size) (take size bytes), drop size bytes)

-- the number of these bits without a sign
abbrev pub plain_number : ℕ → Number
plain_number bits = record { negative = false; magnitude = bits }

-- bits in two's complement
abbrev pub signed_number : ℕ → ℕ → Number
signed_number size bits =
    if nat_lt bits (half_of size) then plain_number bits else record { negative = true; magnitude = whole_of size - bits }

-- how many bytes a displacement has by its mode: 1 for A and B, 2 for C and D, 4 for E and F
abbrev pub size_of_mode : ℕ → ℕ
size_of_mode mode = if nat_lt mode 12 then 1 else (if nat_lt mode 14 then 2 else 4)

-- modes A to F: a displacement on a register, deferred in the odd ones
unfoldable pub displacement_shown : ℕ → ℕ → List ℕ → Text Place
displacement_shown mode reg bytes = do
  bits ← number_shown (size_of_mode mode) bytes
  Some (places.Disp (size_of_mode mode) reg (signed_number (size_of_mode mode) bits.0) (mode % 2 == 1), bits.1)

-- mode 9 on PC: an absolute address of four bytes
unfoldable pub absolute_shown : List ℕ → Text Place
absolute_shown bytes = number_shown 4 bytes >>= λ address. Some (places.Absolute (values.Number (plain_number address.0)), address.1)

-- modes 6 to F, which have an address; none for a lower mode, or for 6, 7 and 8 on PC
unfoldable pub place_shown : ℕ → ℕ → List ℕ → Text Place
place_shown mode reg bytes =
    if nat_lt mode 6 then None
    else (if nat_lt 9 mode then displacement_shown mode reg bytes
    else (if (mode == 9) && (reg == 15) then absolute_shown bytes
    else (if reg == 15 then None
    else (if mode == 6 then Some (places.Deferred reg, bytes)
    else (if mode == 7 then Some (places.AutoDec reg, bytes)
    else (if mode == 8 then Some (places.AutoInc reg, bytes)
    else Some (places.AutoIncDef reg, bytes)))))))

-- an operand with this index and the base that follows, which doesn't change the index register
unfoldable pub indexed_shown : ℕ → List ℕ → Text Written
indexed_shown index bytes = do
  first ← byte_shown bytes
  if nat_lt 6 (first.0 / 16) && nat_lt (first.0 / 16) 10 && (first.0 % 16 == index) then None
      else (place_shown (first.0 / 16) (first.0 % 16) first.1 >>= λ base. Some (writtens.Indexed index base.0, base.1))

-- mode 8 on PC: an immediate of the slot's size
unfoldable pub immediate_shown : Slot → List ℕ → Text Written
immediate_shown slot bytes = number_shown slot.size bytes >>= λ number. Some (writtens.Immediate (values.Number (plain_number number.0)), number.1)

-- the operand that a mode and a register begin; none where the slot's access doesn't take it
unfoldable pub specifier_shown : Slot → ℕ → ℕ → List ℕ → Text Written
specifier_shown slot mode reg bytes =
    if nat_lt mode 4 then (if is_read slot.access then Some (writtens.Literal (plain_number (16 * mode + reg)), bytes) else None)
    else (if mode == 4 then (if reg == 15 then None else indexed_shown reg bytes)
    else (if mode == 5 then (if (reg == 15) || is_address slot.access then None else Some (writtens.Register reg, bytes))
    else (if (mode == 8) && (reg == 15) then (if is_read slot.access then immediate_shown slot bytes else None)
    else (place_shown mode reg bytes >>= λ place. Some (writtens.Plain place.0, place.1)))))

-- where a branch leads to, modulo 2^32, by its bits and its end
abbrev pub branch_target : ℕ → ℕ → ℕ → ℕ
branch_target size bits end =
    if nat_lt bits (half_of size) then (end + bits) % 4294967296 else (end + bits + (4294967296 - whole_of size)) % 4294967296

-- the target of the branch whose displacement begins at this address
unfoldable pub branch_shown : Slot → ℕ → List ℕ → Text Written
branch_shown slot from bytes = do
  bits ← number_shown slot.size bytes
  Some (writtens.Target (values.Number (plain_number (branch_target slot.size bits.0 (from + slot.size)))), bits.1)

-- the operand of a slot, whose first byte has this address: a branch's target, or what its specifier begins
unfoldable pub operand_shown : Slot → ℕ → List ℕ → Text Written
operand_shown slot from bytes =
    if is_branch slot.access then branch_shown slot from bytes
    else (byte_shown bytes >>= λ first. specifier_shown slot (first.0 / 16) (first.0 % 16) first.1)

-- the operand in one of the places 0, 1 and 2 of the row, absent where the instruction has none there
unfoldable pub row_place_shown : Row → ℕ → ℕ → List ℕ → Text Written
row_place_shown row place from bytes =
    if nat_lt place row.count then operand_shown (slot_in row place) from bytes else Some (writtens.Absent, bytes)

-- the operands after the opcode, whose first byte has this address
unfoldable pub operands_shown : Row → ℕ → List ℕ → Text Sentence
operands_shown row from bytes = do
  a ← row_place_shown row 0 from bytes
  b ← row_place_shown row 1 (from + (length bytes - length a.1)) a.1
  c ← row_place_shown row 2 (from + (length bytes - length b.1)) b.1
  Some (record { row = row; a = a.0; b = b.0; c = c.0 }, c.1)

-- the instruction that the bytes at an address begin with
unfoldable pub sentence_shown : ℕ → List ℕ → Text Sentence
sentence_shown at bytes = do
  first ← byte_shown bytes
  row ← row_for first.0
  operands_shown row (at + 1) first.1

-- ---- its text

-- the byte of a hexadecimal digit, in lower case
abbrev pub hexadecimal_digit : ℕ → ℕ
hexadecimal_digit digit = if nat_lt digit 10 then 48 + digit else 87 + digit

-- in at most so many hexadecimal digits, without leading zeros
abbrev pub hexadecimal : ℕ → ℕ → List ℕ
hexadecimal zero number = []
hexadecimal (suc places) number =
    if nat_lt number 16 then hexadecimal_digit number ∷ []
    else hexadecimal places (number / 16) ++ (hexadecimal_digit (number % 16) ∷ [])

-- `-` for a negative number, and nothing for any other
abbrev pub sign_text : Bool → List ℕ
sign_text true = codes "-"
sign_text false = []

-- a number in hexadecimal: its sign, `0x` and its digits
unfoldable pub number_text : Number → List ℕ
number_text number = sign_text number.negative ++ (codes "0x" ++ hexadecimal 8 number.magnitude)

-- no bytes show a label
unfoldable pub value_text : Value → List ℕ
value_text (values.Number number) = number_text number
value_text (values.Label label) = []

-- the number of a register in decimal
abbrev pub register_number_text : ℕ → List ℕ
register_number_text reg = if nat_lt reg 10 then (48 + reg) ∷ [] else (48 + reg / 10) ∷ (48 + reg % 10) ∷ []

-- `rK`
unfoldable pub register_text : ℕ → List ℕ
register_text reg = codes "r" ++ register_number_text reg

-- `(rK)`
unfoldable pub parenthesised_text : ℕ → List ℕ
parenthesised_text reg = codes "(" ++ (register_text reg ++ codes ")")

-- `*` for an operand that is deferred, and nothing for any other
abbrev pub star_text : Bool → List ℕ
star_text true = codes "*"
star_text false = []

-- the letter of a displacement's size: `b`, `w` or `l` for 1, 2 or 4 bytes
abbrev pub mark_of_size : ℕ → ℕ
mark_of_size size = if size == 1 then 98 else (if size == 2 then 119 else 108)

-- `b^N(rK)`, `w^N(rK)` or `l^N(rK)`, by the size
unfoldable pub displacement_text : ℕ → ℕ → Number → List ℕ
displacement_text size reg by = mark_of_size size ∷ (codes "^" ++ (number_text by ++ parenthesised_text reg))

-- the text of an operand that has an address
unfoldable pub place_text : Place → List ℕ
place_text (places.Deferred reg) = parenthesised_text reg
place_text (places.AutoDec reg) = codes "-" ++ parenthesised_text reg
place_text (places.AutoInc reg) = parenthesised_text reg ++ codes "+"
place_text (places.AutoIncDef reg) = codes "*" ++ (parenthesised_text reg ++ codes "+")
place_text (places.Absolute address) = codes "*$" ++ value_text address
place_text (places.Disp size reg by deferred) = star_text deferred ++ displacement_text size reg by

-- the text of an operand; empty where it is absent, or where no instruction takes it
unfoldable pub written_text : Written → List ℕ
written_text writtens.Absent = []
written_text (writtens.Literal number) = codes "$" ++ number_text number
written_text (writtens.Register reg) = register_text reg
written_text (writtens.Immediate value) = codes "i^$" ++ value_text value
written_text (writtens.Plain place) = place_text place
written_text (writtens.Indexed index base) = place_text base ++ (codes "[" ++ (register_text index ++ codes "]"))
written_text (writtens.Misindexed immediate) = []
written_text (writtens.Target target) = value_text target

-- an operand in a place of the row, after its separator; nothing where the instruction has none there
unfoldable pub row_place_text : Row → ℕ → Written → List ℕ
row_place_text row place written = if nat_lt place row.count then separator place ∷ written_text written else []

-- the text of an instruction: its mnemonic, and its operands
unfoldable pub sentence_text : Sentence → List ℕ
sentence_text sentence =
    mnemonic sentence.row.name
    ++ (row_place_text sentence.row 0 sentence.a ++ (row_place_text sentence.row 1 sentence.b ++ row_place_text sentence.row 2 sentence.c))

-- The text is that of the instruction, of so many bytes, that the bytes at an address begin with. It is one of the grammar,
-- and names these bytes again.
pub record IsTextOf (bytes : List ℕ) (at : ℕ) (text : List ℕ) (size : ℕ) : Type 0 where
  pub sentence : Sentence
  pub shown : sentence_shown at bytes ≡ Some (sentence, drop size bytes)
  pub written : text ≡ sentence_text sentence
  pub says : IsInstructionText text sentence
  pub instr : Instr
  pub decodes : decoded bytes ≡ decodings.Is instr
  pub sized : instr.length ≡ size
  pub within : size ≤ length bytes
  pub encodes : IsCodeOf text [] at (take size bytes)

-- what showing the bytes at an address answers
abbrev pub ShowsAs : List ℕ → ℕ → Shown → Type 0
ShowsAs bytes at (shownings.Is text count size) = IsTextOf bytes at (take count text) size × (count ≤ 120)
ShowsAs bytes at shownings.NoInstruction = (instr : Instr) → decoded bytes ≢ decodings.Is instr
