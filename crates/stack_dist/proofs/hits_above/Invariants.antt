use Rattle.std.proofs.Common.{◌≡◌, take}
use Rattle.stack_dist.specs.Tree.{total}
use Rattle.stack_dist.proofs.hits_above.Given as goal

abbrev pub invariant-loop-count : goal.invariant-loop-count
invariant-loop-count l = l.hits ≡ total (take l.count-index l.counts)
