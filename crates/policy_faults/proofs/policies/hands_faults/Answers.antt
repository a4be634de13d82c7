use Rattle.policy_faults.specs.Ring.{is_in_memory}
use Rattle.policy_faults.specs.Policies.{ring_after, hands_room, hands_faults}
use Rattle.policy_faults.proofs.Counting.{counted_step, counted_end}
use Rattle.policy_faults.proofs.policies.hands_faults.Goals as goal

pub loop-page-preserved : goal.loop-page-preserved
loop-page-preserved c = record {
  counted =
      counted_step is_in_memory (ring_after (hands_room c.args.frames c.args.spread)) c.loop-page.ring c.hands_reference.new.ring c.args.refs.now c.loop-page.page-index c.loop-page.faults
      c.in_ok-faults.field-0 (hands_faults c.args.refs.now c.args.frames c.args.spread) c.loop-page-test.true c.in_ok-faults.ensures.after c.in_ok-faults.ensures.faults c.loop-page.invariant.counted;
}

pub returns : goal.returns
returns c =
    counted_end is_in_memory (ring_after (hands_room c.args.frames c.args.spread)) c.loop-page.ring c.args.refs.now c.loop-page.page-index c.loop-page.faults
    (hands_faults c.args.refs.now c.args.frames c.args.spread) c.loop-page-test.false c.loop-page.invariant.counted
