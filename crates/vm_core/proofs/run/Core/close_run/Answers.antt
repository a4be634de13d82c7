use Rattle.io_edge.specs.WithFiles.{stores}
use Rattle.std.proofs.Common.{subst}
use Rattle.vm_core.specs.Cores.{Underway}
use Rattle.vm_core.proofs.Noting.{stops_on}
use Rattle.vm_core.proofs.Closings.{run_stops}
use Rattle.proc_run.specs.Sizes.{KeptAtStop}
use Rattle.vm_core.proofs.run.Core.close_run.Goals as goal
use Rattle.vm_core.specs.Closing.{AllTaken}
use Rattle.vm_core.specs.Accounts.{StopsAccountedFrom}

pub returns-in_err-self-inside-clause-stops : goal.returns-in_err-self-inside-clause-stops
returns-in_err-self-inside-clause-stops g c =
    let old : Underway = record { machine = c.self.inside.machine; counted = c.self.inside.counted } in
    let after : Underway = record { machine = c.close.new.m; counted = c.self.inside.counted } in
    let holds = g.F.Files.holds c.args.files.now in
    let i = stores g.F.Files g.D.SwapDev c.args.files.now c.args.swap.now in
    let j = stores g.F.Files g.D.SwapDev c.close.new.files c.close.new.swap in
    stops_on c.from_residual.result c.in_err-self-inside.field-0.0 (StopsAccountedFrom (AllTaken c.args.self.now holds i) c.args.self.now.machine after.machine j) c.from_residual.ensures.1
    (subst (λ (u : Underway). StopsAccountedFrom (AllTaken u holds i) u.machine after.machine j c.in_err-self-inside.field-0.0) c.self.view_is
    (run_stops old after holds i j c.in_err-self-inside.field-0.0 c.in_err-self-inside.ensures.stops))

pub returns-in_err-self-inside-clause-kept : goal.returns-in_err-self-inside-clause-kept
returns-in_err-self-inside-clause-kept g c =
    stops_on c.from_residual.result c.in_err-self-inside.field-0.0 (KeptAtStop c.args.self.now.machine c.close.new.m) c.from_residual.ensures.1
    (subst (λ (u : Underway). KeptAtStop u.machine c.close.new.m c.in_err-self-inside.field-0.0) c.self.view_is c.in_err-self-inside.ensures.kept)
