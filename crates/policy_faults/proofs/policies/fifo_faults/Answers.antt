use Rattle.std.proofs.Common.{List, [], ap}
use Rattle.page_opt.specs.Plans.{has}
use Rattle.policy_faults.specs.Ring.{MarkedPage, ring_pages}
use Rattle.policy_faults.specs.Policies.{fifo_after, fifo_faults}
use Rattle.policy_faults.proofs.Counting.{counted_start, counted_step, counted_end}
use Rattle.policy_faults.proofs.policies.fifo_faults.Goals as goal

pub loop-page-init : goal.loop-page-init
unfolding ring_pages
loop-page-init c = record {
  counted = counted_start has (fifo_after c.args.frames) (ring_pages c.new-ring.result) [] c.args.refs.now (ap (λ (ms : List MarkedPage). ring_pages ms) c.new-ring.ensures);
}

pub loop-page-preserved : goal.loop-page-preserved
loop-page-preserved c = record {
  counted =
      counted_step has (fifo_after c.args.frames) (ring_pages c.loop-page.ring) (ring_pages c.fifo_reference.new.ring) c.args.refs.now c.loop-page.page-index c.loop-page.faults
      c.in_ok-faults.field-0 (fifo_faults c.args.refs.now c.args.frames) c.loop-page-test.true c.in_ok-faults.ensures.after c.in_ok-faults.ensures.faults c.loop-page.invariant.counted;
}

pub returns : goal.returns
returns c =
    counted_end has (fifo_after c.args.frames) (ring_pages c.loop-page.ring) c.args.refs.now c.loop-page.page-index c.loop-page.faults
    (fifo_faults c.args.refs.now c.args.frames) c.loop-page-test.false c.loop-page.invariant.counted
