use Rattle.io_edge.specs.WithFiles.{stores}
use Rattle.vm_facts.specs.declared.event.Event.TheVariants as events
use Rattle.vm_core.proofs.Noting.{stops_on}
use Rattle.vm_core.proofs.Asked.{hands_make, hands_steady, hands_halt}
use Rattle.proc_run.specs.Sizes.{KeptAtStop}
use Rattle.proc_run.specs.Stepped.{StopsFrom}
use Rattle.vm_core.proofs.Kept.{kept_moving}
use Rattle.vm_core.proofs.lines.hands.Goals as goal
use Rattle.vm_core.specs.Lines.{LineAt}

pub returns-clause-made : goal.returns-clause-made
returns-clause-made g c =
    hands_make c.args.m.now c.move_hands.new.m (g.F.Files.holds c.args.files.now) (stores g.F.Files g.D.SwapDev c.args.files.now c.args.swap.now)
    (stores g.F.Files g.D.SwapDev c.move_hands.new.files c.move_hands.new.swap) c.args.count
    c.in_ok-move_hands.field-0 c.in_ok-move_hands.ensures.moved

pub returns-clause-steady : goal.returns-clause-steady
returns-clause-steady g c =
    hands_steady c.args.m.now c.move_hands.new.m (g.F.Files.holds c.args.files.now) (stores g.F.Files g.D.SwapDev c.args.files.now c.args.swap.now)
    (stores g.F.Files g.D.SwapDev c.move_hands.new.files c.move_hands.new.swap) c.args.count
    c.in_ok-move_hands.field-0 c.requires.steady c.requires.first c.requires.few c.in_ok-move_hands.ensures.moved c.in_ok-move_hands.ensures.goes_on.asks.ready

pub returns-in_err-move_hands-clause-stops : goal.returns-in_err-move_hands-clause-stops
returns-in_err-move_hands-clause-stops g c =
    let holds = g.F.Files.holds c.args.files.now in
    let i = stores g.F.Files g.D.SwapDev c.args.files.now c.args.swap.now in
    let j = stores g.F.Files g.D.SwapDev c.move_hands.new.files c.move_hands.new.swap in
    stops_on c.from_residual.result c.in_err-move_hands.field-0.0 (StopsFrom (LineAt c.args.m.now holds i (events.Hands c.args.count)) c.args.m.now c.move_hands.new.m j) c.from_residual.ensures.1
    (hands_halt c.args.m.now c.move_hands.new.m holds i j c.args.count c.in_err-move_hands.field-0.0 c.in_err-move_hands.ensures.stopped)

pub returns-in_err-move_hands-clause-kept : goal.returns-in_err-move_hands-clause-kept
returns-in_err-move_hands-clause-kept g c =
    stops_on c.from_residual.result c.in_err-move_hands.field-0.0 (KeptAtStop c.args.m.now c.move_hands.new.m) c.from_residual.ensures.1
    (kept_moving c.args.m.now c.move_hands.new.m (g.F.Files.holds c.args.files.now) (stores g.F.Files g.D.SwapDev c.args.files.now c.args.swap.now)
    (stores g.F.Files g.D.SwapDev c.move_hands.new.files c.move_hands.new.swap) c.args.count c.in_err-move_hands.field-0.0 c.in_err-move_hands.ensures.stopped)
