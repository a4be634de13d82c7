use Rattle.std.proofs.Common.{length}
use Rattle.transfer_ring.proofs.writing.+are_together.Given as goal

abbrev pub decreases-are_together : goal.decreases-are_together
decreases-are_together l = length l.parts.now
