use Rattle.io_edge.specs.WithFiles.{stores}
use Rattle.vm_facts.specs.declared.event.Event.TheVariants as events
use Rattle.vm_core.proofs.Noting.{stops_on}
use Rattle.vm_core.proofs.Asked.{swapper_makes, swapper_steady, swapper_halts}
use Rattle.proc_run.specs.Sizes.{KeptAtStop}
use Rattle.proc_run.specs.Stepped.{StopsFrom}
use Rattle.vm_core.proofs.Kept.{kept_turning}
use Rattle.vm_core.proofs.lines.swapper.Goals as goal
use Rattle.vm_core.specs.Lines.{LineAt}

pub returns-clause-made : goal.returns-clause-made
returns-clause-made g c =
    swapper_makes c.args.m.now c.turn.new.m (g.F.Files.holds c.args.files.now) (stores g.F.Files g.D.SwapDev c.args.files.now c.args.swap.now)
    (stores g.F.Files g.D.SwapDev c.turn.new.files c.turn.new.swap)
    c.in_ok-turn.field-0 c.in_ok-turn.ensures.chosen c.in_ok-turn.ensures.did

pub returns-clause-steady : goal.returns-clause-steady
returns-clause-steady g c =
    swapper_steady c.args.m.now c.turn.new.m (g.F.Files.holds c.args.files.now) (stores g.F.Files g.D.SwapDev c.args.files.now c.args.swap.now)
    (stores g.F.Files g.D.SwapDev c.turn.new.files c.turn.new.swap)
    c.in_ok-turn.field-0 c.requires.steady c.in_ok-turn.ensures.did c.in_ok-turn.ensures.goes_on.asks.ready

pub returns-in_err-turn-clause-stops : goal.returns-in_err-turn-clause-stops
returns-in_err-turn-clause-stops g c =
    let holds = g.F.Files.holds c.args.files.now in
    let i = stores g.F.Files g.D.SwapDev c.args.files.now c.args.swap.now in
    let j = stores g.F.Files g.D.SwapDev c.turn.new.files c.turn.new.swap in
    stops_on c.from_residual.result c.in_err-turn.field-0.0 (StopsFrom (LineAt c.args.m.now holds i events.Swapper) c.args.m.now c.turn.new.m j) c.from_residual.ensures.1
    (swapper_halts c.args.m.now c.turn.new.m holds i j c.in_err-turn.field-0.0 c.in_err-turn.ensures.stopped)

pub returns-in_err-turn-clause-kept : goal.returns-in_err-turn-clause-kept
returns-in_err-turn-clause-kept g c =
    stops_on c.from_residual.result c.in_err-turn.field-0.0 (KeptAtStop c.args.m.now c.turn.new.m) c.from_residual.ensures.1
    (kept_turning c.args.m.now c.turn.new.m (g.F.Files.holds c.args.files.now) (stores g.F.Files g.D.SwapDev c.args.files.now c.args.swap.now)
    (stores g.F.Files g.D.SwapDev c.turn.new.files c.turn.new.swap) c.in_err-turn.ensures.stopped.0 c.in_err-turn.field-0.0
    c.in_err-turn.ensures.stopped.2)
