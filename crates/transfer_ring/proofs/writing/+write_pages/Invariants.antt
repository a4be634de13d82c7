use Rattle.std.proofs.Common.{length}
use Rattle.transfer_ring.proofs.writing.+write_pages.Given as goal

abbrev pub decreases-write_pages : goal.decreases-write_pages
decreases-write_pages g l = length l.pages.now
