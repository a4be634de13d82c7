use Rattle.page_opt.specs.Plans.{has}
use Rattle.policy_faults.specs.Ring.{ring_pages}
use Rattle.policy_faults.specs.Policies.{fifo_after, fifo_faults}
use Rattle.policy_faults.proofs.Counting.{Counted}
use Rattle.policy_faults.proofs.policies.fifo_faults.Given as goal

abbrev pub invariant-loop-page : goal.invariant-loop-page
invariant-loop-page l = record {
  counted : Counted has (fifo_after l.frames) (ring_pages l.ring) l.refs l.page-index l.faults (fifo_faults l.refs l.frames);
}
