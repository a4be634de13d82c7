-- That an operand names registers has one proof at most, as a fact that a value carries has to.
use Rattle.std.specs.Coded.{×_prop, Unit-prop, le_prop}
use Rattle.vax_code.specs.declared.instr.Base.{Base}
use Rattle.vax_code.specs.declared.instr.Base.TheVariants as bases
use Rattle.vax_code.specs.declared.instr.Operand.{Operand}
use Rattle.vax_code.specs.declared.instr.Operand.TheVariants as operands
use Rattle.vax_code.specs.Valid.{IsBase, IsOperand}

IsBase-prop : (base : Base) → IsProp (IsBase base)
IsBase-prop (bases.Deferred reg) = le_prop
IsBase-prop (bases.AutoDec reg) = le_prop
IsBase-prop (bases.AutoInc reg) = le_prop
IsBase-prop (bases.AutoIncDef reg) = le_prop
IsBase-prop (bases.Absolute address) = Unit-prop
IsBase-prop (bases.Disp reg by deferred) = le_prop

pub IsOperand-prop : (operand : Operand) → IsProp (IsOperand operand)
IsOperand-prop (operands.Literal value) = Unit-prop
IsOperand-prop (operands.Register reg) = le_prop
IsOperand-prop (operands.Deferred reg) = le_prop
IsOperand-prop (operands.AutoDec reg) = le_prop
IsOperand-prop (operands.AutoInc reg) = le_prop
IsOperand-prop (operands.AutoIncDef reg) = le_prop
IsOperand-prop (operands.Immediate value) = Unit-prop
IsOperand-prop (operands.Absolute address) = Unit-prop
IsOperand-prop (operands.Disp reg by deferred) = le_prop
IsOperand-prop (operands.Indexed index base) = ×_prop le_prop (IsBase-prop base)
IsOperand-prop (operands.Branch by) = Unit-prop
