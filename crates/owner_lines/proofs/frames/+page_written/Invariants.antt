use Rattle.std.proofs.Common.{length}
use Rattle.owner_lines.proofs.frames.+page_written.Given as goal

abbrev pub decreases-page_written : goal.decreases-page_written
decreases-page_written l = length l.parts.now
