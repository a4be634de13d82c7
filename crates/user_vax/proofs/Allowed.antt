-- What an instruction writes was tested before.
use Rattle.std.proofs.Common.{◌≡◌, [], Option, Some, None, Ok, subst}
use Rattle.vm_facts.specs.Answers.{Answers}
use Rattle.vm_facts.specs.declared.regs.Regs.{Regs}
use Rattle.vax_code.specs.declared.instr.Instr.{Instr}
use Rattle.vax_code.specs.declared.table.Row.{Row}
use Rattle.vax_code.specs.Table.{row_for}
use Rattle.user_vax.specs.Program.{Gives, run, ◌>>=◌}
use Rattle.user_vax.specs.Operands.{register, with_register, past}
use Rattle.user_vax.specs.Effects.{Effect}
use Rattle.user_vax.specs.Computation.{computation}
use Rattle.user_vax.specs.Instruction.{MayAll, fetch, evaluations, write_tests, tested_effect, execution, execution_by, instruction}
use Rattle.user_vax.proofs.Runs.{ok_of_bind}
use Rattle.user_vax.proofs.Tested.{tested_may}

tested_allowed : (memory : Answers) (given effect : Effect) → run memory (tested_effect given) ≡ Ok effect → MayAll memory effect.writes
unfolding tested_effect
tested_allowed memory given effect h =
    let parts = ok_of_bind memory (write_tests given.writes) (λ _. Gives given) effect h in
    let last = parts.2 in
    let same : given ≡ effect = cc in
    subst (λ (e : Effect). MayAll memory e.writes) same (tested_may memory given.writes parts.1)

execution_allowed : (memory : Answers) (row : Row) (regs : Regs) (instr : Instr) (effect : Effect) → run memory (execution row regs instr) ≡ Ok effect
    → MayAll memory effect.writes
unfolding execution
execution_allowed memory row regs instr effect h =
    let one = ok_of_bind memory (evaluations row regs instr) (λ all. computation row.name all.0 all.1 all.2 all.3 >>= tested_effect) effect h in
    let two = ok_of_bind memory (computation row.name one.0.0 one.0.1 one.0.2 one.0.3) tested_effect effect one.2 in
    tested_allowed memory two.0 effect two.2

execution_by_allowed : (memory : Answers) (row : Option Row) (regs : Regs) (instr : Instr) (effect : Effect)
    → run memory (execution_by row regs instr) ≡ Ok effect → MayAll memory effect.writes
unfolding execution_by
execution_by_allowed memory None regs instr effect h = absurd (cc)
execution_by_allowed memory (Some row) regs instr effect h =
    execution_allowed memory row (with_register regs 15 (past (register regs 15) instr.length)) instr effect h

pub instruction_allowed : (memory : Answers) (regs : Regs) (effect : Effect) → run memory (instruction regs) ≡ Ok effect → MayAll memory effect.writes
unfolding instruction
instruction_allowed memory regs effect h =
    let one = ok_of_bind memory (fetch 20 (register regs 15) []) (λ instr. execution_by (row_for instr.op) regs instr) effect h in
    execution_by_allowed memory (row_for one.0.op) regs one.0 effect one.2
