-- Which instructions stay in registers, so that no memory is asked.
use Rattle.std.specs.Prelude.{◌≡◌, Bool, true, false}
use Rattle.vax_code.specs.declared.instr.Instr.{Instr}
use Rattle.vax_code.specs.declared.instr.Operand.{Operand}
use Rattle.vax_code.specs.declared.instr.Operand.TheVariants as operands
use Rattle.vax_code.specs.declared.table.Name.{Name}
use Rattle.vax_code.specs.declared.table.Name.TheVariants as names
use Rattle.user_vax.specs.declared.operand.Place.{Place}
use Rattle.user_vax.specs.declared.operand.Place.TheVariants as places
use Rattle.vax_execute.specs.declared.ready.Ready.{Ready}

-- an instruction that isn't refused once its operands are evaluated, reads no more of memory, and makes no call
abbrev pub is_plain : Name → Bool
is_plain names.Ret = false
is_plain names.Rsb = false
is_plain names.Chmk = false
is_plain names.Divl2 = false
is_plain names.Divl3 = false
is_plain names.Callg = false
is_plain names.Calls = false
is_plain _ = true

-- a plain instruction that pushes a longword
abbrev pub is_push : Name → Bool
is_push names.Bsbb = true
is_push names.Bsbw = true
is_push names.Jsb = true
is_push names.Pushab = true
is_push names.Pushal = true
is_push names.Pushl = true
is_push _ = false

-- an operand that is a number, a register or a branch target
abbrev pub is_at_hand : Operand → Bool
is_at_hand (operands.Literal value) = true
is_at_hand (operands.Immediate value) = true
is_at_hand (operands.Register reg) = true
is_at_hand (operands.Branch by) = true
is_at_hand _ = false

-- a plain instruction that pushes nothing, each operand of which is at hand
pub record StaysInRegisters (name : Name) (instr : Instr) : Type 0 where
  pub plain : is_plain name ≡ true
  pub pushes_none : is_push name ≡ false
  pub first : is_at_hand instr.a ≡ true
  pub second : is_at_hand instr.b ≡ true
  pub third : is_at_hand instr.c ≡ true

-- a place in memory
abbrev pub is_in_memory : Place → Bool
is_in_memory (places.Memory address) = true
is_in_memory _ = false

-- no operand that was evaluated lies in memory
pub record LiesOutside (ready : Ready) : Type 0 where
  pub first : is_in_memory ready.a.place ≡ false
  pub second : is_in_memory ready.b.place ≡ false
  pub third : is_in_memory ready.c.place ≡ false
