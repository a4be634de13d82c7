-- The next instruction of a process, over its whole space: no byte is missing here.
use Rattle.std.specs.Prelude.{Result}
use Rattle.flat_state.specs.Space.{Space, answers_of}
use Rattle.vm_facts.specs.declared.regs.Regs.{Regs}
use Rattle.user_vax.specs.Program.{run}
use Rattle.user_vax.specs.Effects.{Effect}
use Rattle.user_vax.specs.Instruction.{instruction}
use Rattle.user_vax.specs.declared.refused.Refused.{Refused}

-- what the next instruction comes to; no access can miss here
abbrev pub instruction_in : Space → Regs → Result Effect Refused
instruction_in s regs = run (answers_of s) (instruction regs)
