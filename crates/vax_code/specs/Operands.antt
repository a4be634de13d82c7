-- Operands and instructions by themselves, apart from the bytes that spell them.
use Rattle.std.specs.Prelude.{ℕ, ◌+◌, ◌==◌, if◌then◌else◌, Bool, true, false, pos}
use Rattle.std.specs.Int.{Width, w8, w16, w32, int_wrapping_sub}
use Rattle.vax_code.specs.declared.instr.Operand.{Operand}
use Rattle.vax_code.specs.declared.instr.Operand.TheVariants as operands
use Rattle.vax_code.specs.declared.instr.Base.{Base}
use Rattle.vax_code.specs.declared.instr.Base.TheVariants as bases
use Rattle.vax_code.specs.declared.instr.Instr.{Instr}
use Rattle.vax_code.specs.declared.table.Row.{Row}
use Rattle.vax_code.specs.declared.table.Access.{Access}
use Rattle.vax_code.specs.declared.table.Access.TheVariants as accesses

-- an operand as its bytes spell it, and how many bytes these are
pub record Spelled : Type 0 where
  pub operand : Operand
  pub size : ℕ

-- the width of a number of 1, 2 or 4 bytes
abbrev pub width_of : ℕ → Width
width_of size = if size == 1 then w8 else (if size == 2 then w16 else w32)

-- what an access allows

-- the operand is read and not written
abbrev pub is_read : Access → Bool
is_read accesses.Read = true
is_read _ = false

-- the operand's address is asked
abbrev pub is_address : Access → Bool
is_address accesses.Address = true
is_address _ = false

-- the operand is a branch displacement
abbrev pub is_branch : Access → Bool
is_branch accesses.Branch = true
is_branch _ = false

-- the operand that is a base by itself
abbrev pub operand_of : Base → Operand
operand_of (bases.Deferred reg) = operands.Deferred reg
operand_of (bases.AutoDec reg) = operands.AutoDec reg
operand_of (bases.AutoInc reg) = operands.AutoInc reg
operand_of (bases.AutoIncDef reg) = operands.AutoIncDef reg
operand_of (bases.Absolute address) = operands.Absolute address
operand_of (bases.Disp reg by deferred) = operands.Disp reg by deferred

-- a displacement on PC counts from the end of the instruction, which is so many bytes after the operand
abbrev pub base_from_end : ℕ → Base → Base
base_from_end behind (bases.Disp reg by deferred) =
    if reg == 15 then bases.Disp reg (int_wrapping_sub w32 by (pos behind)) deferred
    else bases.Disp reg by deferred
base_from_end behind base = base

-- an operand, whose displacement on PC counts from the end of the instruction, so many bytes after the operand
abbrev pub from_end : ℕ → Operand → Operand
from_end behind (operands.Disp reg by deferred) = operand_of (base_from_end behind (bases.Disp reg by deferred))
from_end behind (operands.Indexed index base) = operands.Indexed index (base_from_end behind base)
from_end behind operand = operand

-- the instruction that an opcode and its operands make
abbrev pub assembled : ℕ → Row → Spelled → Spelled → Spelled → Instr
assembled op row a b c = record {
  op = op;
  length = 1 + a.size + b.size + c.size;
  count = row.count;
  a = from_end (b.size + c.size) a.operand;
  b = from_end c.size b.operand;
  c = c.operand;
}
