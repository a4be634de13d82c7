use Rattle.stack_dist.proofs.LruLaws.{Left}
use Rattle.stack_dist.proofs.hits_to_faults.Given as goal

abbrev pub invariant-loop-count : goal.invariant-loop-count
invariant-loop-count l = Left l.count-index l.faults l.references l.fn.counts l.counts
