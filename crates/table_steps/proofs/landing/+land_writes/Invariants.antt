use Rattle.std.proofs.Common.{length}
use Rattle.table_steps.proofs.landing.+land_writes.Given as goal

abbrev pub decreases-land_writes : goal.decreases-land_writes
decreases-land_writes l = length l.parts.now.items
