use Rattle.std.proofs.Common.{length}
use Rattle.table_steps.proofs.ending.end_ring.Given as goal

abbrev pub decreases-loop-transfer : goal.decreases-loop-transfer
decreases-loop-transfer l = length l.ring
