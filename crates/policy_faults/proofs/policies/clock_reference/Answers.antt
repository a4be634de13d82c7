use Rattle.std.proofs.Common.{List, refl, sym, ap, ◌∙◌}
use Rattle.policy_faults.specs.Ring.{MarkedPage, is_in_memory}
use Rattle.policy_faults.specs.Policies.{clock_room}
use Rattle.policy_faults.proofs.Turning.{clock_away}
use Rattle.policy_faults.proofs.policies.clock_reference.Goals as goal

pub page_in-requires : goal.page_in-requires
page_in-requires c =
    ap (λ (ms : List MarkedPage). is_in_memory c.args.page ms) (c.make_clock_room.ensures ∙ ap (λ (ms : List MarkedPage). clock_room c.args.frames ms) (c.if-touch.ensures.same refl))
    ∙ clock_away c.args.page c.args.frames c.args.ring.now (sym c.if-touch.ensures.there)
