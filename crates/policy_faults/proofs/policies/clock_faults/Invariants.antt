use Rattle.policy_faults.specs.Ring.{is_in_memory}
use Rattle.policy_faults.specs.Policies.{ring_after, clock_room, clock_faults}
use Rattle.policy_faults.proofs.Counting.{Counted}
use Rattle.policy_faults.proofs.policies.clock_faults.Given as goal

abbrev pub invariant-loop-page : goal.invariant-loop-page
invariant-loop-page l = record {
  counted : Counted is_in_memory (ring_after (clock_room l.frames)) l.ring l.refs l.page-index l.faults (clock_faults l.refs l.frames);
}
