use Rattle.io_edge.specs.WithFiles.{stores}
use Rattle.vm_facts.specs.declared.entry.Entry.TheVariants as entries
use Rattle.run_model.specs.declared.mark.Mark.TheVariants as marks
use Rattle.machine_state.proofs.Besides.{in_beside, asks_beside}
use Rattle.vm_core.proofs.PutUnits.{in_stops_beside}
use Rattle.vm_core.proofs.Finding.{may_come}
use Rattle.vm_core.specs.Sizes.{KeptAtStop}
use Rattle.vm_core.specs.Stepped.{StopsFrom}
use Rattle.vm_core.proofs.StopsKeep.{kept_at}
use Rattle.vm_core.proofs.Noting.{stops_on}
use Rattle.vm_core.proofs.Steadying.{in_steady}
use Rattle.film_core.proofs.RestsMade.{bring_rests, bring_stops, steady_stays}
use Rattle.film_core.proofs.resting.bring_in.Goals as goal
use Rattle.film_core.specs.Ways.{RestAt}

pub swap_in-requires-clause-can : goal.swap_in-requires-clause-can
swap_in-requires-clause-can g c =
    let u = c.requires.under in
    may_come u.0 u.1 c.args.m.now.kernel u.2 c.args.pid u.3.stands.machine.at u.3.mark

pub returns-clause-rests : goal.returns-clause-rests
returns-clause-rests g c =
    bring_rests c.args.m.now c.swap_in.new.m c.args.pid c.args.counted (g.F.Files.holds c.args.files.now) (stores g.F.Files g.D.SwapDev c.args.files.now c.args.swap.now)
    (stores g.F.Files g.D.SwapDev c.args.files.now c.swap_in.new.swap)
    (in_beside c.args.m.now.kernel c.swap_in.new.m.kernel c.args.pid (g.D.SwapDev.image c.args.swap.now) (g.F.Files.notes c.args.files.now) c.in_ok-swap_in.ensures.step)
    (asks_beside c.args.m.now.kernel c.args.pid (g.D.SwapDev.image c.args.swap.now) (g.D.SwapDev.image c.swap_in.new.swap) (g.F.Files.notes c.args.files.now) c.in_ok-swap_in.ensures.asked)

pub returns-clause-on : goal.returns-clause-on
returns-clause-on g c =
    steady_stays c.args.m.now c.swap_in.new.m c.args.counted c.requires.counted
    (in_steady c.args.m.now c.swap_in.new.m c.args.pid (g.D.SwapDev.image c.args.swap.now) (g.D.SwapDev.image c.swap_in.new.swap) c.requires.steady
    c.in_ok-swap_in.ensures.step c.in_ok-swap_in.ensures.beside c.in_ok-swap_in.ensures.asked c.in_ok-swap_in.ensures.goes_on)

pub returns-in_err-swap_in-clause-stops : goal.returns-in_err-swap_in-clause-stops
returns-in_err-swap_in-clause-stops g c =
    let old = c.args.m.now in
    let new = c.swap_in.new.m in
    let holds = g.F.Files.holds c.args.files.now in
    let i = stores g.F.Files g.D.SwapDev c.args.files.now c.args.swap.now in
    let j = stores g.F.Files g.D.SwapDev c.args.files.now c.swap_in.new.swap in
    let stop = c.in_err-swap_in.field-0.0 in
    stops_on c.from_residual.result stop (StopsFrom (RestAt old (marks.BringIn c.args.pid) c.args.counted holds i) old new j) c.from_residual.ensures.1
    (bring_stops old new c.args.pid c.args.counted holds i j stop
    (in_stops_beside c.args.pid old (g.D.SwapDev.image c.args.swap.now) (g.D.SwapDev.image c.swap_in.new.swap) stop new (g.F.Files.notes c.args.files.now) c.in_err-swap_in.ensures.stopped))

pub returns-in_err-swap_in-clause-kept : goal.returns-in_err-swap_in-clause-kept
returns-in_err-swap_in-clause-kept g c =
    let old = c.args.m.now in
    let new = c.swap_in.new.m in
    let stop = c.in_err-swap_in.field-0.0 in
    stops_on c.from_residual.result stop (KeptAtStop old new) c.from_residual.ensures.1
    (kept_at (entries.SwapIn c.args.pid) old new (g.D.SwapDev.image c.args.swap.now) (g.D.SwapDev.image c.swap_in.new.swap) stop
    c.in_err-swap_in.ensures.stopped)
