use Rattle.stack_dist.proofs.LruLaws.{left_starts, left_fits, left_more}
use Rattle.std.proofs.Common.{arith}
use Rattle.stack_dist.proofs.hits_to_faults.Goals as goal

pub loop-count-init : goal.loop-count-init
loop-count-init c = left_starts c.args.references c.args.counts.now

pub overflow_sub-faults : goal.overflow_sub-faults
overflow_sub-faults c =
    left_fits c.loop-count.count-index c.loop-count.faults c.args.references c.args.counts.now c.loop-count.counts c.loop-count.invariant c.requires

pub loop-count-preserved : goal.loop-count-preserved
loop-count-preserved c =
    left_more c.loop-count.count-index c.loop-count.faults c.args.references c.args.counts.now c.loop-count.counts c.loop-count.invariant c.requires
    (omega arith)
