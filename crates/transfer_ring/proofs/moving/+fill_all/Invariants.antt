use Rattle.std.proofs.Common.{length}
use Rattle.transfer_ring.proofs.moving.+fill_all.Given as goal

abbrev pub decreases-fill_all : goal.decreases-fill_all
decreases-fill_all g l = length l.parts.now
