use Rattle.std.proofs.Common.{length}
use Rattle.swap_wants.proofs.+find_all.Given as goal

abbrev pub decreases-find_all : goal.decreases-find_all
decreases-find_all l = length l.wants.now
