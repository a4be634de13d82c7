use Rattle.std.proofs.Common.{◌+◌, ◌-◌, ◌*◌, ◌<◌, ◌≤◌}
use Rattle.stack_dist.specs.Tree.{IsPower}
use Rattle.stack_dist.proofs.tree.CountTree.new.Given as goal

abbrev pub invariant-loop-size : goal.invariant-loop-size
invariant-loop-size l = record {
  power : IsPower l.size;
  some : 1 < l.size;
  small : l.size ≤ 2 * l.least + 2;
}

abbrev pub decreases-loop-size : goal.decreases-loop-size
decreases-loop-size l = l.least - l.size
