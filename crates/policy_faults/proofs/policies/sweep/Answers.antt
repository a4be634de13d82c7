use Rattle.std.proofs.Common.{◌-◌, ◌+◌, sym, ap, ◌∙◌, arith}
use Rattle.policy_faults.specs.Ring.{MarkedPage, hand_passed}
use Rattle.std.specs.Prelude.{List}
use Rattle.policy_faults.specs.Policies.{swept}
use Rattle.policy_faults.proofs.Turning.{swept_stops, swept_goes_on, swept_none}
use Rattle.policy_faults.proofs.policies.sweep.Goals as goal

pub returns-then-not-is_hand_marked : goal.returns-then-not-is_hand_marked
returns-then-not-is_hand_marked c =
    sym (swept_stops (c.args.moves - c.loop-moved.moved) c.loop-moved.ring (sym c.if-not-is_hand_marked.ensures)) ∙ c.loop-moved.invariant

pub loop-moved-preserved : goal.loop-moved-preserved
loop-moved-preserved c =
    let left = c.args.moves - (c.loop-moved.moved + 1) in
    ap (λ (ms : List MarkedPage). swept left ms) (c.pass_hand.ensures ∙ ap (λ (ms : List MarkedPage). hand_passed ms) c.unmark.ensures)
    ∙ sym (swept_goes_on (c.args.moves - c.loop-moved.moved) left c.loop-moved.ring (omega (arith, c.loop-moved-test.true)) (sym c.if-not-is_hand_marked.ensures))
    ∙ c.loop-moved.invariant

pub returns : goal.returns
returns c = sym (swept_none (c.args.moves - c.loop-moved.moved) c.loop-moved.ring (omega (arith, c.loop-moved-test.false))) ∙ c.loop-moved.invariant
