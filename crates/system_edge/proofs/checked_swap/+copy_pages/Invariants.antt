use Rattle.std.proofs.Common.{length}
use Rattle.system_edge.proofs.checked_swap.+copy_pages.Given as goal

abbrev pub decreases-copy_pages : goal.decreases-copy_pages
decreases-copy_pages g l = length l.pages.now
