use Rattle.std.proofs.Common.{◌≡◌}
use Rattle.user_vax.specs.Program.{accesses}
use Rattle.user_vax.specs.Instruction.{instruction}
use Rattle.user_step.proofs.Trying.{AllEmpty, left}
use Rattle.user_step.proofs.completing.completes.Given as goal

abbrev pub invariant-loop-address : goal.invariant-loop-address
invariant-loop-address g l = record {
  below : g.M.Memory.answers l.dry.memory.now ≡ g.M.Memory.answers l.fn.memory;
  empty : AllEmpty l.dry.slots.items;
}

abbrev pub decreases-loop-address : goal.decreases-loop-address
decreases-loop-address g l = left l.dry.slots.items (accesses (g.M.Memory.answers l.fn.memory) (instruction l.fn.regs))
