use Rattle.std.proofs.Common.{◌≡◌, ◌+◌, ◌++◌, drop}
use Rattle.flat_state.specs.Flat.{start_processes}
use Rattle.flat_machine.proofs.machine.Machine.started.Given as goal

abbrev pub invariant-loop-number : goal.invariant-loop-number
invariant-loop-number l = record {
  processes : l.machine.processes ++ start_processes l.programs (l.number-index + 1) (drop l.number-index l.first) ≡ start_processes l.programs 1 l.first;
  next_pid : l.machine.next_pid ≡ l.number-index + 1;
  next_sid : l.machine.next_sid ≡ l.number-index + 1;
}
