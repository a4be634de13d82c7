use Rattle.std.proofs.Common.{◌≡◌, ◌-◌}
use Rattle.user_vax.specs.Program.{run}
use Rattle.user_vax.specs.Operands.{past}
use Rattle.user_step.specs.Code.{reads_from}
use Rattle.user_step.proofs.stepping.read_on.Given as goal

-- what is left to read comes to what reading all does
abbrev pub invariant-loop-count : goal.invariant-loop-count
invariant-loop-count g l = run (g.M.Memory.answers l.memory) (reads_from (past l.pc l.count) (20 - l.count)) ≡ run (g.M.Memory.answers l.memory) (reads_from l.pc 20)
