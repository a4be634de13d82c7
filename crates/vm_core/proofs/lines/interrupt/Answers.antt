use Rattle.io_edge.specs.WithFiles.{stores}
use Rattle.vm_facts.specs.declared.event.Event.TheVariants as events
use Rattle.vm_core.proofs.Noting.{stops_on}
use Rattle.vm_core.proofs.Asked.{interrupt_makes, interrupt_steady, interrupt_halts}
use Rattle.proc_run.specs.Sizes.{KeptAtStop}
use Rattle.proc_run.specs.Stepped.{StopsFrom}
use Rattle.vm_core.proofs.Kept.{kept_ending}
use Rattle.vm_core.proofs.lines.interrupt.Goals as goal
use Rattle.vm_core.specs.Lines.{LineAt}

pub returns-clause-made : goal.returns-clause-made
returns-clause-made g c =
    interrupt_makes c.args.m.now c.done.new.self (g.F.Files.holds c.args.files.now) (stores g.F.Files g.D.SwapDev c.args.files.now c.args.swap.now)
    (stores g.F.Files g.D.SwapDev c.done.new.files c.done.new.swap) c.done.result c.in_ok-done.field-0
    c.in_ok-done.was c.done.ensures.idle c.done.ensures.still c.done.ensures.step c.in_ok-done.ensures.swapped

pub returns-clause-steady : goal.returns-clause-steady
returns-clause-steady g c =
    interrupt_steady c.args.m.now c.done.new.self (g.F.Files.holds c.args.files.now) (stores g.F.Files g.D.SwapDev c.args.files.now c.args.swap.now) c.done.result
    c.in_ok-done.field-0 c.requires.steady
    c.in_ok-done.was c.done.ensures.still c.done.ensures.step c.done.ensures.rest c.in_ok-done.ensures.goes_on

pub returns-in_err-done-clause-stops : goal.returns-in_err-done-clause-stops
returns-in_err-done-clause-stops g c =
    let holds = g.F.Files.holds c.args.files.now in
    let i = stores g.F.Files g.D.SwapDev c.args.files.now c.args.swap.now in
    let j = stores g.F.Files g.D.SwapDev c.done.new.files c.done.new.swap in
    stops_on c.from_residual.result c.in_err-done.field-0.0 (StopsFrom (LineAt c.args.m.now holds i events.Interrupt) c.args.m.now c.done.new.self j) c.from_residual.ensures.1
    (interrupt_halts c.args.m.now c.done.new.self holds i j c.in_err-done.field-0.0 c.requires.steady.ready.whole c.in_err-done.ensures.stop c.in_err-done.ensures.cause c.in_err-done.ensures.full
    c.in_err-done.ensures.lost c.in_err-done.ensures.spoiled)

pub returns-in_err-done-clause-kept : goal.returns-in_err-done-clause-kept
returns-in_err-done-clause-kept g c =
    stops_on c.from_residual.result c.in_err-done.field-0.0 (KeptAtStop c.args.m.now c.done.new.self) c.from_residual.ensures.1
    (kept_ending c.args.m.now c.done.new.self c.in_err-done.field-0.0 c.in_err-done.ensures.stop c.in_err-done.ensures.full)
