-- The lines so far, and what is left to be listed.
use Rattle.std.proofs.Common.{◌+◌, ◌<◌, length}
use Rattle.source_commands.proofs.Listings.{ListedSoFar}
use Rattle.source_commands.proofs.text.listing_of.Given as goal

abbrev pub invariant-loop-instruction : goal.invariant-loop-instruction
invariant-loop-instruction l = ListedSoFar l.start l.code l.text.items l.rest l.at × (l.start + length l.code < 4294967296)

abbrev pub decreases-loop-instruction : goal.decreases-loop-instruction
decreases-loop-instruction l = length l.rest
