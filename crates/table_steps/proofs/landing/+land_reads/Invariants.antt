use Rattle.std.proofs.Common.{length}
use Rattle.table_steps.proofs.landing.+land_reads.Given as goal

abbrev pub decreases-land_reads : goal.decreases-land_reads
decreases-land_reads l = length l.parts.now.items
