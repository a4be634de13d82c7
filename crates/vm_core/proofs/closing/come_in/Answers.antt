use Rattle.io_edge.specs.WithFiles.{stores}
use Rattle.std.proofs.Common.{ℕ}
use Rattle.vm_facts.specs.declared.entry.Entry.TheVariants as entries
use Rattle.machine_state.proofs.Besides.{in_beside, asks_beside}
use Rattle.proc_run.proofs.PutUnits.{in_stops_beside}
use Rattle.vm_core.proofs.Noting.{stops_on}
use Rattle.vm_core.proofs.Steadying.{in_steady}
use Rattle.vm_core.proofs.Outs.{held_in}
use Rattle.vm_core.proofs.Turns.{in_already, in_comes, in_stops}
use Rattle.proc_run.specs.Sizes.{KeptAtStop}
use Rattle.proc_run.specs.Stepped.{StopsFrom}
use Rattle.proc_run.proofs.StopsKeep.{kept_at}
use Rattle.vm_core.proofs.closing.come_in.Goals as goal
use Rattle.vm_core.specs.Closing.{TurnAt}

pub returns-then-not-is_out-clause-comes : goal.returns-then-not-is_out-clause-comes
returns-then-not-is_out-clause-comes g c =
    let old = c.args.m.now in
    let holds = g.F.Files.holds c.args.files.now in
    let i = stores g.F.Files g.D.SwapDev c.args.files.now c.args.swap.now in
    λ (counted since : ℕ). in_already old c.args.pid counted since holds i (held_in old c.args.pid counted since holds i (c.is_out.ensures.resident c.if-not-is_out.true))

pub returns-clause-comes : goal.returns-clause-comes
returns-clause-comes g c = λ (counted since : ℕ).
    in_comes c.args.m.now c.swap_in.new.m c.args.pid counted since (g.F.Files.holds c.args.files.now) (stores g.F.Files g.D.SwapDev c.args.files.now c.args.swap.now)
    (stores g.F.Files g.D.SwapDev c.args.files.now c.swap_in.new.swap)
    (c.is_out.ensures.out c.if-not-is_out.false)
    (in_beside c.args.m.now.kernel c.swap_in.new.m.kernel c.args.pid (g.D.SwapDev.image c.args.swap.now) (g.F.Files.notes c.args.files.now) c.in_ok-swap_in.ensures.step)
    c.in_ok-swap_in.ensures.beside.params c.in_ok-swap_in.ensures.beside.images
    (asks_beside c.args.m.now.kernel c.args.pid (g.D.SwapDev.image c.args.swap.now) (g.D.SwapDev.image c.swap_in.new.swap) (g.F.Files.notes c.args.files.now) c.in_ok-swap_in.ensures.asked)

pub returns-clause-steady : goal.returns-clause-steady
returns-clause-steady g c =
    in_steady c.args.m.now c.swap_in.new.m c.args.pid (g.D.SwapDev.image c.args.swap.now) (g.D.SwapDev.image c.swap_in.new.swap) c.requires.steady
    c.in_ok-swap_in.ensures.step c.in_ok-swap_in.ensures.beside c.in_ok-swap_in.ensures.asked c.in_ok-swap_in.ensures.goes_on

pub returns-in_err-swap_in-clause-stops : goal.returns-in_err-swap_in-clause-stops
returns-in_err-swap_in-clause-stops g c =
    let old = c.args.m.now in
    let new = c.swap_in.new.m in
    let holds = g.F.Files.holds c.args.files.now in
    let i = stores g.F.Files g.D.SwapDev c.args.files.now c.args.swap.now in
    let j = stores g.F.Files g.D.SwapDev c.args.files.now c.swap_in.new.swap in
    stops_on c.from_residual.result c.in_err-swap_in.field-0.0 (λ stop. (counted since : ℕ) → StopsFrom (TurnAt old holds i counted since c.args.pid) old new j stop) c.from_residual.ensures.1
    (λ counted since. in_stops old new c.args.pid counted since holds i j c.in_err-swap_in.field-0.0 (c.is_out.ensures.out c.if-not-is_out.false)
    (in_stops_beside c.args.pid old (g.D.SwapDev.image c.args.swap.now) (g.D.SwapDev.image c.swap_in.new.swap) c.in_err-swap_in.field-0.0 new
    (g.F.Files.notes c.args.files.now) c.in_err-swap_in.ensures.stopped))

pub returns-in_err-swap_in-clause-kept : goal.returns-in_err-swap_in-clause-kept
returns-in_err-swap_in-clause-kept g c =
    let old = c.args.m.now in
    let new = c.swap_in.new.m in
    stops_on c.from_residual.result c.in_err-swap_in.field-0.0 (KeptAtStop old new) c.from_residual.ensures.1
    (kept_at (entries.SwapIn c.args.pid) old new (g.D.SwapDev.image c.args.swap.now) (g.D.SwapDev.image c.swap_in.new.swap) c.in_err-swap_in.field-0.0
    c.in_err-swap_in.ensures.stopped)
