use Rattle.std.proofs.Common.{length}
use Rattle.transfer_ring.proofs.transfer.+is_write_of.Given as goal

abbrev pub decreases-is_write_of : goal.decreases-is_write_of
decreases-is_write_of l = length l.parts.now
