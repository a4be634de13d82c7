use Rattle.std.proofs.Common.{◌-◌, ◌+◌, sym, ap, ◌∙◌, arith}
use Rattle.std.specs.Prelude.{List}
use Rattle.policy_faults.specs.Ring.{MarkedPage, hand_passed, is_hand_marked}
use Rattle.policy_faults.specs.Policies.{hands_moved}
use Rattle.policy_faults.proofs.Turning.{hands_stop, hands_go_on, hands_none}
use Rattle.policy_faults.proofs.policies.move_hands.Goals as goal

pub returns-then-not-is_hand_marked : goal.returns-then-not-is_hand_marked
returns-then-not-is_hand_marked c =
    c.unmark.ensures
    ∙ sym (hands_stop c.args.ahead (c.args.moves - c.loop-moved.moved) c.loop-moved.ring (omega (arith, c.loop-moved-test.true))
    (ap (λ (ms : List MarkedPage). is_hand_marked ms) (sym c.unmark.ensures) ∙ sym c.if-not-is_hand_marked.ensures))
    ∙ c.loop-moved.invariant

pub loop-moved-preserved : goal.loop-moved-preserved
loop-moved-preserved c =
    let left = c.args.moves - (c.loop-moved.moved + 1) in
    ap (λ (ms : List MarkedPage). hands_moved c.args.ahead left ms) (c.pass_hand.ensures ∙ ap (λ (ms : List MarkedPage). hand_passed ms) c.unmark.ensures)
    ∙ sym (hands_go_on c.args.ahead (c.args.moves - c.loop-moved.moved) left c.loop-moved.ring (omega (arith, c.loop-moved-test.true))
    (ap (λ (ms : List MarkedPage). is_hand_marked ms) (sym c.unmark.ensures) ∙ sym c.if-not-is_hand_marked.ensures))
    ∙ c.loop-moved.invariant

pub returns : goal.returns
returns c =
    sym (hands_none c.args.ahead (c.args.moves - c.loop-moved.moved) c.loop-moved.ring (omega (arith, c.loop-moved-test.false))) ∙ c.loop-moved.invariant
