use Rattle.io_edge.specs.WithFiles.{stores}
use Rattle.run_model.specs.declared.mark.Mark.TheVariants as marks
use Rattle.vm_core.proofs.Finding.{put_out_in}
use Rattle.vm_core.specs.Sizes.{KeptAtStop}
use Rattle.vm_core.specs.Turned.TheVariants as turns
use Rattle.vm_core.specs.Stepped.{StopsFrom}
use Rattle.vm_core.proofs.Asked.{swapper_steady}
use Rattle.vm_core.proofs.Kept.{kept_turning}
use Rattle.vm_core.proofs.Noting.{stops_on}
use Rattle.film_core.proofs.RestsMade.{put_rests, put_stops, steady_stays}
use Rattle.film_core.proofs.resting.put_out.Goals as goal
use Rattle.film_core.specs.Ways.{RestAt}

pub swap_out-requires-clause-holds : goal.swap_out-requires-clause-holds
swap_out-requires-clause-holds g c =
    let u = c.requires.under in
    (put_out_in u.0 u.1 c.args.m.now.kernel u.2 c.args.pid u.3.stands.machine.at u.3.mark).0

pub swap_out-requires-clause-resident : goal.swap_out-requires-clause-resident
swap_out-requires-clause-resident g c =
    let u = c.requires.under in
    (put_out_in u.0 u.1 c.args.m.now.kernel u.2 c.args.pid u.3.stands.machine.at u.3.mark).1

pub returns-clause-rests : goal.returns-clause-rests
returns-clause-rests g c =
    let p = c.in_ok-swap_out.ensures.put in
    put_rests c.args.m.now c.swap_out.new.m c.args.pid p.0 c.args.counted (g.F.Files.holds c.args.files.now)
    (stores g.F.Files g.D.SwapDev c.args.files.now c.args.swap.now) (stores g.F.Files g.D.SwapDev c.swap_out.new.files c.swap_out.new.swap) p.1 p.2

pub returns-clause-on : goal.returns-clause-on
returns-clause-on g c =
    steady_stays c.args.m.now c.swap_out.new.m c.args.counted c.requires.counted
    (swapper_steady c.args.m.now c.swap_out.new.m (g.F.Files.holds c.args.files.now) (stores g.F.Files g.D.SwapDev c.args.files.now c.args.swap.now)
    (stores g.F.Files g.D.SwapDev c.swap_out.new.files c.swap_out.new.swap)
    (turns.Out c.args.pid) c.requires.steady c.in_ok-swap_out.ensures.put c.in_ok-swap_out.ensures.goes_on.asks.ready)

pub returns-in_err-swap_out-clause-stops : goal.returns-in_err-swap_out-clause-stops
returns-in_err-swap_out-clause-stops g c =
    let old = c.args.m.now in
    let new = c.swap_out.new.m in
    let holds = g.F.Files.holds c.args.files.now in
    let i = stores g.F.Files g.D.SwapDev c.args.files.now c.args.swap.now in
    let j = stores g.F.Files g.D.SwapDev c.swap_out.new.files c.swap_out.new.swap in
    let stop = c.in_err-swap_out.field-0.0 in
    let x = c.in_err-swap_out.ensures.stopped in
    stops_on c.from_residual.result stop (StopsFrom (RestAt old (marks.PutOut c.args.pid) c.args.counted holds i) old new j) c.from_residual.ensures.1
    (put_stops old new c.args.pid x.0 c.args.counted holds i j stop x.1 x.2)

pub returns-in_err-swap_out-clause-kept : goal.returns-in_err-swap_out-clause-kept
returns-in_err-swap_out-clause-kept g c =
    let old = c.args.m.now in
    let new = c.swap_out.new.m in
    let stop = c.in_err-swap_out.field-0.0 in
    let x = c.in_err-swap_out.ensures.stopped in
    stops_on c.from_residual.result stop (KeptAtStop old new) c.from_residual.ensures.1
    (kept_turning old new (g.F.Files.holds c.args.files.now) (stores g.F.Files g.D.SwapDev c.args.files.now c.args.swap.now) (stores g.F.Files g.D.SwapDev c.swap_out.new.files c.swap_out.new.swap)
    (turns.Out c.args.pid) stop x)
