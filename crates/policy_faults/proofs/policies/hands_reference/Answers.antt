use Rattle.std.proofs.Common.{List, refl, sym, ap, ◌∙◌}
use Rattle.policy_faults.specs.Ring.{MarkedPage, is_in_memory}
use Rattle.policy_faults.specs.Policies.{hands_room}
use Rattle.policy_faults.proofs.Turning.{hands_away}
use Rattle.policy_faults.proofs.policies.hands_reference.Goals as goal

pub page_in-requires : goal.page_in-requires
page_in-requires c =
    ap (λ (ms : List MarkedPage). is_in_memory c.args.page ms) (c.make_hands_room.ensures ∙ ap (λ (ms : List MarkedPage). hands_room c.args.frames c.args.spread ms) (c.if-touch.ensures.same refl))
    ∙ hands_away c.args.page c.args.frames c.args.spread c.args.ring.now (sym c.if-touch.ensures.there)
