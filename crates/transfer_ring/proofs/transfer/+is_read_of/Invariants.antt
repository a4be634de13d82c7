use Rattle.std.proofs.Common.{length}
use Rattle.transfer_ring.proofs.transfer.+is_read_of.Given as goal

abbrev pub decreases-is_read_of : goal.decreases-is_read_of
decreases-is_read_of l = length l.parts.now
