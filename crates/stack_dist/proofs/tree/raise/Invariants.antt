use Rattle.std.proofs.Common.{◌≤◌, take, drop}
use Rattle.stack_dist.specs.Tree.{total, raised}
use Rattle.stack_dist.proofs.TreeLaws.{Raising, Counting}
use Rattle.stack_dist.proofs.tree.raise.Given as goal

abbrev pub invariant-loop-node : goal.invariant-loop-node
invariant-loop-node l = record {
  raising : Raising l.size l.node (raised (drop l.size l.fn.sums) l.at) l.sums;
  counting : Counting l.node l.before (total (take l.at (drop l.size l.fn.sums))) l.fn.sums l.sums;
  some : 1 ≤ l.node;
}

abbrev pub decreases-loop-node : goal.decreases-loop-node
decreases-loop-node l = l.node
