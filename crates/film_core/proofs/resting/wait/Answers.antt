use Rattle.io_edge.specs.WithFiles.{stores}
use Rattle.run_model.specs.declared.mark.Mark.TheVariants as marks
use Rattle.vm_core.specs.Stepped.{StopsFrom}
use Rattle.vm_core.proofs.Noting.{stops_on}
use Rattle.film_core.proofs.RestsMade.{wait_rests, wait_stops, steady_stays}
use Rattle.film_core.proofs.resting.wait.Goals as goal
use Rattle.film_core.specs.Ways.{RestAt}

pub returns-clause-rests : goal.returns-clause-rests
returns-clause-rests g c =
    wait_rests c.args.m.now c.interrupt.new.m c.args.counted (g.F.Files.holds c.args.files.now) (stores g.F.Files g.D.SwapDev c.args.files.now c.args.swap.now)
    (stores g.F.Files g.D.SwapDev c.interrupt.new.files c.interrupt.new.swap) c.in_ok-interrupt.ensures.made

pub returns-clause-on : goal.returns-clause-on
returns-clause-on g c = steady_stays c.args.m.now c.interrupt.new.m c.args.counted c.requires.counted c.in_ok-interrupt.ensures.steady

pub returns-in_err-interrupt-clause-stops : goal.returns-in_err-interrupt-clause-stops
returns-in_err-interrupt-clause-stops g c =
    let old = c.args.m.now in
    let new = c.interrupt.new.m in
    let holds = g.F.Files.holds c.args.files.now in
    let i = stores g.F.Files g.D.SwapDev c.args.files.now c.args.swap.now in
    let j = stores g.F.Files g.D.SwapDev c.interrupt.new.files c.interrupt.new.swap in
    let stop = c.in_err-interrupt.field-0.0 in
    stops_on c.from_residual.result stop (StopsFrom (RestAt old marks.Interrupt c.args.counted holds i) old new j) c.from_residual.ensures.1
    (wait_stops old new c.args.counted holds i j stop c.in_err-interrupt.ensures.stops)
