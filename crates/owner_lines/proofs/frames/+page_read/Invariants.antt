use Rattle.std.proofs.Common.{length}
use Rattle.owner_lines.proofs.frames.+page_read.Given as goal

abbrev pub decreases-page_read : goal.decreases-page_read
decreases-page_read l = length l.parts.now
