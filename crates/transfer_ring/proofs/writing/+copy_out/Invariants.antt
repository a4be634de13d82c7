use Rattle.std.proofs.Common.{length}
use Rattle.transfer_ring.proofs.writing.+copy_out.Given as goal

abbrev pub decreases-copy_out : goal.decreases-copy_out
decreases-copy_out l = length l.parts.now
