use Rattle.std.proofs.Common.{length}
use Rattle.machine_state.proofs.machine.Machine.+settle.Given as goal

abbrev pub decreases-settle : goal.decreases-settle
decreases-settle g l = length l.self.now.kernel.place.transfers
