-- Reading one instruction from the front of some bytes, as a function. Which bytes are an instruction is the grammar's
-- to say: this is derived from it, and `reading_is_the_grammar` proves that both give the same.
use Rattle.std.specs.Prelude.{◌≡◌, ℕ, ◌+◌, ◌-◌, ◌*◌, ◌/◌, ◌%◌, List, [], ◌∷◌, ◌≤◌, length, take, drop, Option, Some, None, Result, Ok, Err, nat_lt, ◌==◌, ◌&&◌, ◌||◌, if◌then◌else◌, ℤ}
use Rattle.std.specs.Int.{from_le_bytes, cast_signed}
use Rattle.vax_code.specs.declared.instr.Operand.{Operand}
use Rattle.vax_code.specs.declared.instr.Operand.TheVariants as operands
use Rattle.vax_code.specs.declared.instr.Base.{Base}
use Rattle.vax_code.specs.declared.instr.Base.TheVariants as bases
use Rattle.vax_code.specs.declared.instr.Instr.{Instr}
use Rattle.vax_code.specs.declared.instr.Decoded.{Decoded}
use Rattle.vax_code.specs.declared.instr.Decoded.TheVariants as decodings
use Rattle.vax_code.specs.declared.reader.Fault.{Fault}
use Rattle.vax_code.specs.Operands.{Spelled}
use Rattle.vax_code.specs.declared.reader.Fault.TheVariants.{Short, Bad}
use Rattle.vax_code.specs.declared.table.Row.{Row}
use Rattle.vax_code.specs.declared.table.Slot.{Slot}
use Rattle.vax_code.specs.Table.{row_for, slot_in}
use Rattle.vax_code.specs.Operands.{width_of, operand_of, is_read, is_address, is_branch, assembled}

infixl 10 ◌>>=◌
-- one reading, and then another from the value that it gives; a fault of the first is that of both
abbrev pub ◌>>=◌ : {A B : Type 0} → Result A Fault → (A → Result B Fault) → Result B Fault
(Ok x) >>= f = f x
(Err e) >>= f = Err e

-- a value and the bytes after it
abbrev pub Read : Type 0 → Type 0
Read A = Result (A × List ℕ) Fault

-- the next byte; `Short` where there is none
unfoldable pub next_byte : List ℕ → Read ℕ
next_byte [] = Err Short
next_byte (byte ∷ rest) = Ok (byte, rest)

-- the little-endian number of 1, 2 or 4 bytes
unfoldable pub next_number : ℕ → List ℕ → Read ℕ
next_number size bytes =
    if nat_lt (length bytes) size then Err Short
    else Ok (from_le_bytes (width_of size) (take size bytes), drop size bytes)

-- the little-endian number of 1, 2 or 4 bytes in two's complement
unfoldable pub next_signed : ℕ → List ℕ → Read ℤ
next_signed size bytes = do
  number ← next_number size bytes
  Ok (cast_signed (width_of size) number.0, number.1)

-- modes A to F: a displacement of 1, 2 or 4 bytes, deferred in the odd ones
unfoldable pub next_displacement : ℕ → ℕ → List ℕ → Read Base
next_displacement mode reg bytes = do
  by ← next_signed (if nat_lt mode 12 then 1 else (if nat_lt mode 14 then 2 else 4)) bytes
  Ok (bases.Disp reg by.0 (mode % 2 == 1), by.1)

-- modes 6 to F, which give an address
unfoldable pub base_at : ℕ → ℕ → List ℕ → Read Base
base_at mode reg bytes =
    if nat_lt mode 6 then Err Bad
    else (if nat_lt 9 mode then next_displacement mode reg bytes
    else (if (mode == 9) && (reg == 15) then (next_number 4 bytes >>= λ number. Ok (bases.Absolute number.0, number.1))
    else (if reg == 15 then Err Bad
    else (if mode == 6 then Ok (bases.Deferred reg, bytes)
    else (if mode == 7 then Ok (bases.AutoDec reg, bytes)
    else (if mode == 8 then Ok (bases.AutoInc reg, bytes)
    else Ok (bases.AutoIncDef reg, bytes)))))))

-- the base of an index: no immediate, and no change of the index register itself
unfoldable pub indexed_at : ℕ → List ℕ → Read Operand
indexed_at index bytes = do
  first ← next_byte bytes
  if nat_lt 6 (first.0 / 16) && nat_lt (first.0 / 16) 10 && (first.0 % 16 == index) then Err Bad
      else (base_at (first.0 / 16) (first.0 % 16) first.1 >>= λ base. Ok (operands.Indexed index base.0, base.1))

-- the operand that a mode and a register begin
unfoldable pub next_specifier : Slot → ℕ → ℕ → List ℕ → Read Operand
next_specifier slot mode reg bytes =
    if nat_lt mode 4 then (if is_read slot.access then Ok (operands.Literal (16 * mode + reg), bytes) else Err Bad)
    else (if mode == 4 then (if reg == 15 then Err Bad else indexed_at reg bytes)
    else (if mode == 5 then (if (reg == 15) || is_address slot.access then Err Bad else Ok (operands.Register reg, bytes))
    else (if (mode == 8) && (reg == 15) then
    (if is_read slot.access then (next_number slot.size bytes >>= λ number. Ok (operands.Immediate number.0, number.1)) else Err Bad)
    else (base_at mode reg bytes >>= λ base. Ok (operand_of base.0, base.1)))))

-- the operand of a slot: a branch displacement, or what its specifier begins
unfoldable pub next_operand : Slot → List ℕ → Read Operand
next_operand slot bytes =
    if is_branch slot.access then (next_signed slot.size bytes >>= λ by. Ok (operands.Branch by.0, by.1))
    else (next_byte bytes >>= λ first. next_specifier slot (first.0 / 16) (first.0 % 16) first.1)

-- what a function returned is what reading gives
abbrev pub Gives : {X Y : Type 0} → (X → Y) → Result X Fault → Result Y Fault → Type 0
Gives view (Ok x) read = read ≡ Ok (view x)
Gives view (Err e) read = read ≡ Err e

-- the row of an opcode that isn't reserved
abbrev pub row_or_bad : Option Row → Result Row Fault
row_or_bad None = Err Bad
row_or_bad (Some row) = Ok row

-- what was read, and how many bytes it took
unfoldable pub with_count : (List ℕ → Read Operand) → List ℕ → Read Spelled
with_count read bytes = do
  operand ← read bytes
  Ok (record { operand = operand.0; size = length bytes - length operand.1 }, operand.1)

-- the operand in a place of the row, or the filler where the instruction has none there
unfoldable pub operand_in_place : Row → ℕ → List ℕ → Read Spelled
operand_in_place row place bytes =
    if nat_lt place row.count then with_count (next_operand (slot_in row place)) bytes
    else Ok (record { operand = operands.Literal 0; size = 0 }, bytes)

-- the operands that follow the opcode
unfoldable pub next_operands : ℕ → Row → List ℕ → Read Instr
next_operands op row bytes = do
  a ← operand_in_place row 0 bytes
  b ← operand_in_place row 1 a.1
  c ← operand_in_place row 2 b.1
  Ok (assembled op row a.0 b.0 c.0, c.1)

-- the instruction at the front of the bytes
unfoldable pub instruction_at : List ℕ → Read Instr
instruction_at bytes = do
  first ← next_byte bytes
  row ← row_or_bad (row_for first.0)
  next_operands first.0 row first.1

-- what reading an instruction says: the instruction, that more bytes are needed, or that it is reserved
abbrev pub decoding_of : Read Instr → Decoded
decoding_of (Ok read) = decodings.Is read.0
decoding_of (Err Short) = decodings.NeedMore
decoding_of (Err Bad) = decodings.Reserved

-- what the bytes begin with
unfoldable pub decoded : List ℕ → Decoded
decoded bytes = decoding_of (instruction_at bytes)

-- what was read of an instruction is what bytes decode to
abbrev pub Decodes : Result (Unit {0}) Fault → Instr → Decoded → Type 0
Decodes (Ok done) instr found = found ≡ decodings.Is instr
Decodes (Err Short) instr found = found ≡ decodings.NeedMore
Decodes (Err Bad) instr found = found ≡ decodings.Reserved

-- reading took at most so many bytes
pub record Took (bytes rest : List ℕ) (most : ℕ) : Type 0 where
  pub some : length rest ≤ length bytes
  pub few : length bytes ≤ length rest + most
