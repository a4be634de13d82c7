-- How one operand is evaluated: registers, addresses, and the bytes that are read.
use Rattle.std.specs.Prelude.{ℕ, zero, suc, ◌+◌, ◌-◌, ◌*◌, ◌%◌, ◌^◌, ◌<◌, true, false, slice_index, slice_set}
use Rattle.std.specs.Int.{w32, cast_unsigned}
use Rattle.vm_facts.specs.declared.regs.Regs.{Regs}
use Rattle.vax_code.specs.declared.instr.Operand.{Operand}
use Rattle.vax_code.specs.declared.instr.Operand.TheVariants as operands
use Rattle.vax_code.specs.declared.instr.Base.{Base}
use Rattle.vax_code.specs.declared.instr.Base.TheVariants as bases
use Rattle.vax_code.specs.declared.table.Slot.{Slot}
use Rattle.vax_code.specs.declared.table.Access.TheVariants as accesses
use Rattle.user_vax.specs.declared.operand.Place.{Place}
use Rattle.user_vax.specs.declared.operand.Place.TheVariants as places
use Rattle.user_vax.specs.declared.operand.Evaluated.{Evaluated}
use Rattle.user_vax.specs.Program.{Program, Gives, Reads, ◌>>=◌}

-- an address so far on; addresses wrap
abbrev pub past : ℕ → ℕ → ℕ
past address by = (address + by) % 2 ^ 32

-- an address so far back
abbrev pub back : ℕ → ℕ → ℕ
back address by = (address + (2 ^ 32 - by)) % 2 ^ 32

-- the longword in this register
abbrev pub register : Regs → ℕ → ℕ
register regs reg = slice_index regs.r reg

-- the registers with this longword in one of them
abbrev pub with_register : Regs → ℕ → ℕ → Regs
with_register regs reg value = record regs { r = slice_set regs.r reg value }

-- the little-endian number of so many bytes from an address on, read lowest address first
unfoldable pub number_at : ℕ → ℕ → Program ℕ
number_at zero address = Gives 0
number_at (suc size) address = do
  low ← Reads address (λ byte. Gives byte)
  high ← number_at size (past address 1)
  Gives (low + 256 * high)

-- the registers after a base, and the address that it names
unfoldable pub address_of : Regs → ℕ → Base → Program (Regs × ℕ)
address_of regs size (bases.Deferred reg) = Gives (regs, register regs reg)
address_of regs size (bases.AutoDec reg) = Gives (with_register regs reg (back (register regs reg) size), back (register regs reg) size)
address_of regs size (bases.AutoInc reg) = Gives (with_register regs reg (past (register regs reg) size), register regs reg)
address_of regs size (bases.AutoIncDef reg) = do
  address ← number_at 4 (register regs reg)
  Gives (with_register regs reg (past (register regs reg) 4), address)
address_of regs size (bases.Absolute address) = Gives (regs, address)
address_of regs size (bases.Disp reg by false) = Gives (regs, past (register regs reg) (cast_unsigned w32 by))
address_of regs size (bases.Disp reg by true) = do
  address ← number_at 4 (past (register regs reg) (cast_unsigned w32 by))
  Gives (regs, address)

-- an operand in memory: its value is read where the access reads or modifies, and is the address itself
-- where an address is asked
unfoldable pub evaluation_at : Slot → Regs → ℕ → Program (Regs × Evaluated)
evaluation_at slot regs address =
    elim slot.access [
      | accesses.Read ↦ (number_at slot.size address >>= λ value. Gives (regs, record { value = value; place = places.Memory address }))
      | accesses.Modify ↦ (number_at slot.size address >>= λ value. Gives (regs, record { value = value; place = places.Memory address }))
      | accesses.Write ↦ Gives (regs, record { value = 0; place = places.Memory address })
      | accesses.Address ↦ Gives (regs, record { value = address; place = places.Memory address })
      | accesses.Branch ↦ Gives (regs, record { value = address; place = places.Memory address })
    ]

-- the registers after an operand at the address that a base names, and what it is
unfoldable pub evaluation_through : Slot → Regs → Base → Program (Regs × Evaluated)
evaluation_through slot regs base = do
  found ← address_of regs slot.size base
  evaluation_at slot found.0 found.1

-- the registers after an operand, and what it is; PC stands after the instruction
unfoldable pub evaluation : Slot → Regs → Operand → Program (Regs × Evaluated)
evaluation slot regs (operands.Literal value) = Gives (regs, record { value = value; place = places.Nowhere })
evaluation slot regs (operands.Immediate value) = Gives (regs, record { value = value; place = places.Nowhere })
evaluation slot regs (operands.Register reg) = Gives (regs, record { value = register regs reg % 256 ^ slot.size; place = places.Register reg })
evaluation slot regs (operands.Branch by) = Gives (regs, record { value = past (register regs 15) (cast_unsigned w32 by); place = places.Nowhere })
evaluation slot regs (operands.Deferred reg) = evaluation_through slot regs (bases.Deferred reg)
evaluation slot regs (operands.AutoDec reg) = evaluation_through slot regs (bases.AutoDec reg)
evaluation slot regs (operands.AutoInc reg) = evaluation_through slot regs (bases.AutoInc reg)
evaluation slot regs (operands.AutoIncDef reg) = evaluation_through slot regs (bases.AutoIncDef reg)
evaluation slot regs (operands.Absolute address) = evaluation_through slot regs (bases.Absolute address)
evaluation slot regs (operands.Disp reg by deferred) = evaluation_through slot regs (bases.Disp reg by deferred)
evaluation slot regs (operands.Indexed index base) = do
  found ← address_of regs slot.size base
  evaluation_at slot found.0 (past found.1 (slot.size * register found.0 index))

-- a place in a register names a register
abbrev pub IsPlace : Place → Type 0
IsPlace places.Nowhere = Unit {0}
IsPlace (places.Register reg) = reg < 16
IsPlace (places.Memory address) = Unit {0}
