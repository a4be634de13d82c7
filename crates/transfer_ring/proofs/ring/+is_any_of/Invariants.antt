use Rattle.std.proofs.Common.{length}
use Rattle.transfer_ring.proofs.ring.+is_any_of.Given as goal

abbrev pub decreases-is_any_of : goal.decreases-is_any_of
decreases-is_any_of l = length l.order.now
