use Rattle.std.proofs.Common.{length}
use Rattle.machine_state.proofs.machine.Machine.+write_down.Given as goal

abbrev pub decreases-write_down : goal.decreases-write_down
decreases-write_down l = length l.longwords.now
