use Rattle.std.proofs.Common.{◌≤◌}
use Rattle.page_opt.proofs.Summaries.{Descending}
use Rattle.page_opt.proofs.place_set.last_leaf.Given as goal

abbrev pub invariant-loop-level : goal.invariant-loop-level
invariant-loop-level l = record {
  level : l.level ≤ l.height;
  descending : Descending l.first l.words l.level l.node;
}

abbrev pub decreases-loop-level : goal.decreases-loop-level
decreases-loop-level l = l.level
