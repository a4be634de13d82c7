use Rattle.std.proofs.Common.{◌-◌}
use Rattle.swapper.proofs.largest.+four_largest.Given as goal

abbrev pub decreases-four_largest : goal.decreases-four_largest
decreases-four_largest l = l.next - l.last
