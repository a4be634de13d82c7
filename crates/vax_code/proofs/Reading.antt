-- Each part of an instruction is read so.
use Rattle.std.proofs.Common.{◌≡◌, ℕ, ◌+◌, ◌*◌, ◌/◌, ◌%◌, Bool, true, false, cond, List, [], Ok, refl, arith, nat_lt, ◌&&◌, ◌||◌, Option, Some, None}
use Rattle.std.specs.Prelude.{◌==◌}
use Rattle.std.specs.Int.{cast_signed}
use Rattle.vax_code.specs.Operands.{Spelled}
use Rattle.vax_code.specs.declared.instr.Operand.TheVariants as operands
use Rattle.vax_code.specs.declared.instr.Base.TheVariants as bases
use Rattle.vax_code.specs.declared.table.Slot.{Slot}
use Rattle.vax_code.specs.declared.table.Row.{Row}
use Rattle.vax_code.specs.Reading.{Read, ◌>>=◌, next_signed, next_displacement, base_at, indexed_at, next_specifier, next_operand, operand_in_place, next_operands, instruction_at, row_or_bad}
use Rattle.vax_code.specs.Operands.{width_of, operand_of, is_read, is_address, is_branch, assembled}
use Rattle.vax_code.specs.Table.{slot_in, row_for, all_rows}
use Rattle.vax_code.proofs.Readers.{IsReader, Completion, bind_reader, ok_reader, bad_reader, if_reader, begins_ok, byte_then, begins_byte, number_reader, begins_number, counted_reader, counted_completion, joined}

-- a value made of what was read
pub mapped : {A B : Type 0} {p : List ℕ → Read A} (g : A → B) → IsReader p → IsReader (λ bytes. p bytes >>= λ r. Ok (g r.0, r.1))
mapped g first = bind_reader first (λ x. ok_reader (g x)) (λ x. begins_ok (g x))

begins_mapped : {A B : Type 0} {p : List ℕ → Read A} (g : A → B) → Completion p [] → Completion (λ bytes. p bytes >>= λ r. Ok (g r.0, r.1)) []
begins_mapped g first = record { more = first.more; octets = first.octets; value = g first.value; reads = rw first.reads refl }

pub signed_reader : (size : ℕ) → IsReader (next_signed size)
unfolding next_signed
signed_reader size = mapped (cast_signed (width_of size)) (number_reader size)

pub displacement_reader : (mode reg : ℕ) → IsReader (next_displacement mode reg)
unfolding next_displacement
displacement_reader mode reg =
    mapped (λ by. bases.Disp reg by (mode % 2 == 1)) (signed_reader (cond (nat_lt mode 12) 1 (cond (nat_lt mode 14) 2 4)))

pub base_reader : (mode reg : ℕ) → IsReader (base_at mode reg)
unfolding base_at
base_reader mode reg =
    if_reader (nat_lt mode 6) bad_reader
    (if_reader (nat_lt 9 mode) (displacement_reader mode reg)
    (if_reader ((mode == 9) && (reg == 15)) (mapped bases.Absolute (number_reader 4))
    (if_reader (reg == 15) bad_reader
    (if_reader (mode == 6) (ok_reader (bases.Deferred reg))
    (if_reader (mode == 7) (ok_reader (bases.AutoDec reg))
    (if_reader (mode == 8) (ok_reader (bases.AutoInc reg))
    (ok_reader (bases.AutoIncDef reg))))))))

pub indexed_reader : (index : ℕ) → IsReader (indexed_at index)
unfolding indexed_at base_at
indexed_reader index =
    byte_then
    (λ first. if_reader (nat_lt 6 (first / 16) && nat_lt (first / 16) 10 && (first % 16 == index)) bad_reader
    (mapped (operands.Indexed index) (base_reader (first / 16) (first % 16))))
    (begins_byte _ 96 (omega arith) (record { more = []; octets = tt; value = operands.Indexed index (bases.Deferred 0); reads = refl }))

pub specifier_reader : (slot : Slot) (mode reg : ℕ) → IsReader (next_specifier slot mode reg)
unfolding next_specifier
specifier_reader slot mode reg =
    if_reader (nat_lt mode 4) (if_reader (is_read slot.access) (ok_reader (operands.Literal (16 * mode + reg))) bad_reader)
    (if_reader (mode == 4) (if_reader (reg == 15) bad_reader (indexed_reader reg))
    (if_reader (mode == 5) (if_reader ((reg == 15) || is_address slot.access) bad_reader (ok_reader (operands.Register reg)))
    (if_reader ((mode == 8) && (reg == 15)) (if_reader (is_read slot.access) (mapped operands.Immediate (number_reader slot.size)) bad_reader)
    (mapped operand_of (base_reader mode reg)))))

-- the byte of (R0) begins an operand of any access but a branch's
begins_specifier : (slot : Slot) → Completion (next_specifier slot 6 0) []
unfolding next_specifier base_at
begins_specifier slot = record { more = []; octets = tt; value = operands.Deferred 0; reads = refl }

begins_displacement : (size : ℕ) → Completion (λ bytes. next_signed size bytes >>= λ by. Ok (operands.Branch by.0, by.1)) []
unfolding next_signed
begins_displacement size = begins_mapped operands.Branch (begins_mapped (cast_signed (width_of size)) (begins_number size))

begins_choice : {A : Type 0} {p q : List ℕ → Read A} (test : Bool) → Completion p [] → Completion q [] → Completion (λ bytes. cond test (p bytes) (q bytes)) []
begins_choice true first second = first
begins_choice false first second = second

begins_operand : (slot : Slot) → Completion (next_operand slot) []
unfolding next_operand
begins_operand slot =
    begins_choice (is_branch slot.access) (begins_displacement slot.size) (begins_byte _ 96 (omega arith) (begins_specifier slot))

pub operand_reader : (slot : Slot) → IsReader (next_operand slot)
unfolding next_operand
operand_reader slot =
    if_reader (is_branch slot.access) (mapped operands.Branch (signed_reader slot.size))
    (byte_then (λ first. specifier_reader slot (first / 16) (first % 16)) (begins_byte _ 96 (omega arith) (begins_specifier slot)))

pub place_reader : (row : Row) (place : ℕ) → IsReader (operand_in_place row place)
unfolding operand_in_place
place_reader row place =
    if_reader (nat_lt place row.count) (counted_reader (operand_reader (slot_in row place)))
    (ok_reader (record { operand = operands.Literal 0; size = 0 }))

begins_place : (row : Row) (place : ℕ) → Completion (operand_in_place row place) []
unfolding operand_in_place
begins_place row place =
    begins_choice (nat_lt place row.count) (counted_completion [] (begins_operand (slot_in row place)))
    (begins_ok (record { operand = operands.Literal 0; size = 0 }))

module _ (op : ℕ) (row : Row) (a : Spelled) where
  last_reader : (b : Spelled) → IsReader (λ bytes. operand_in_place row 2 bytes >>= λ c. Ok (assembled op row a b c.0, c.1))
  last_reader b = mapped (λ c. assembled op row a b c) (place_reader row 2)

  begins_last : (b : Spelled) → Completion (λ bytes. operand_in_place row 2 bytes >>= λ c. Ok (assembled op row a b c.0, c.1)) []
  begins_last b = begins_mapped (λ c. assembled op row a b c) (begins_place row 2)

  later_reader : IsReader (λ bytes. operand_in_place row 1 bytes >>= λ b. operand_in_place row 2 b.1 >>= λ c. Ok (assembled op row a b.0 c.0, c.1))
  later_reader = bind_reader (place_reader row 1) (last_reader) (begins_last)

  begins_later : Completion (λ bytes. operand_in_place row 1 bytes >>= λ b. operand_in_place row 2 b.1 >>= λ c. Ok (assembled op row a b.0 c.0, c.1)) []
  begins_later = joined [] (place_reader row 1) (begins_place row 1) (begins_last)

pub operands_reader : (op : ℕ) (row : Row) → IsReader (next_operands op row)
unfolding next_operands
operands_reader op row = bind_reader (place_reader row 0) (later_reader op row) (begins_later op row)

begins_operands : (op : ℕ) (row : Row) → Completion (next_operands op row) []
unfolding next_operands
begins_operands op row = joined [] (place_reader row 0) (begins_place row 0) (begins_later op row)

found_reader : (op : ℕ) (found : Option Row) → IsReader (λ rest. row_or_bad found >>= λ row. next_operands op row rest)
found_reader op None = bad_reader
found_reader op (Some row) = operands_reader op row

nop_found : (row : Row) → row_for 1 ≡ Some row → Completion (λ rest. row_or_bad (row_for 1) >>= λ row. next_operands 1 row rest) []
nop_found row h = let tail = begins_operands 1 row in record { more = tail.more; octets = tail.octets; value = tail.value; reads = rw h tail.reads }

begins_nop : Completion (λ rest. row_or_bad (row_for 1) >>= λ row. next_operands 1 row rest) []
unfolding row_for all_rows
begins_nop = nop_found _ refl

pub instruction_reader : IsReader instruction_at
unfolding instruction_at
instruction_reader = byte_then (λ op. found_reader op (row_for op)) (begins_byte _ 1 (omega arith) begins_nop)
