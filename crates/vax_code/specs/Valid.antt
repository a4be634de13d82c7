-- The operands whose registers are registers.
use Rattle.std.specs.Prelude.{◌≡◌, ◌<◌, ◌≤◌}
use Rattle.vax_code.specs.declared.instr.Operand.{Operand}
use Rattle.vax_code.specs.declared.instr.Operand.TheVariants as operands
use Rattle.vax_code.specs.declared.instr.Base.{Base}
use Rattle.vax_code.specs.declared.instr.Base.TheVariants as bases
use Rattle.vax_code.specs.declared.instr.Instr.{Instr}
use Rattle.vax_code.specs.declared.instr.Decoded.{Decoded}
use Rattle.vax_code.specs.declared.instr.Decoded.TheVariants as decodings

-- the registers that a base names are registers
abbrev pub IsBase : Base → Type 0
IsBase (bases.Deferred reg) = reg < 16
IsBase (bases.AutoDec reg) = reg < 16
IsBase (bases.AutoInc reg) = reg < 16
IsBase (bases.AutoIncDef reg) = reg < 16
IsBase (bases.Absolute address) = Unit {0}
IsBase (bases.Disp reg by deferred) = reg < 16

-- the registers that an operand names are registers
abbrev pub IsOperand : Operand → Type 0
IsOperand (operands.Literal value) = Unit {0}
IsOperand (operands.Immediate value) = Unit {0}
IsOperand (operands.Branch by) = Unit {0}
IsOperand (operands.Register reg) = reg < 16
IsOperand (operands.Deferred reg) = reg < 16
IsOperand (operands.AutoDec reg) = reg < 16
IsOperand (operands.AutoInc reg) = reg < 16
IsOperand (operands.AutoIncDef reg) = reg < 16
IsOperand (operands.Absolute address) = Unit {0}
IsOperand (operands.Disp reg by deferred) = reg < 16
IsOperand (operands.Indexed index base) = (index < 16) × IsBase base

-- the registers that the three operands of an instruction name are registers, and an operand that it doesn't have is the literal 0
pub record HasOperands (instr : Instr) : Type 0 where
  pub first : IsOperand instr.a
  pub second : IsOperand instr.b
  pub third : IsOperand instr.c
  pub no_first : instr.count ≤ 0 → instr.a ≡ operands.Literal 0
  pub no_second : instr.count ≤ 1 → instr.b ≡ operands.Literal 0
  pub no_third : instr.count ≤ 2 → instr.c ≡ operands.Literal 0

-- what was decoded is made of such operands
abbrev pub IsSound : Decoded → Type 0
IsSound (decodings.Is instr) = HasOperands instr
IsSound decodings.NeedMore = Unit {0}
IsSound decodings.Reserved = Unit {0}
