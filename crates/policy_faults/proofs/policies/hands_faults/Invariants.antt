use Rattle.policy_faults.specs.Ring.{is_in_memory}
use Rattle.policy_faults.specs.Policies.{ring_after, hands_room, hands_faults}
use Rattle.policy_faults.proofs.Counting.{Counted}
use Rattle.policy_faults.proofs.policies.hands_faults.Given as goal

abbrev pub invariant-loop-page : goal.invariant-loop-page
invariant-loop-page l = record {
  counted : Counted is_in_memory (ring_after (hands_room l.frames l.spread)) l.ring l.refs l.page-index l.faults (hands_faults l.refs l.frames l.spread);
}
