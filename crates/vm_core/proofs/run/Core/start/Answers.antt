use Rattle.io_edge.specs.WithFiles.{stores}
use Rattle.std.proofs.Common.{ap, ◌∙◌, subst}
use Rattle.vm_core.specs.Cores.{Underway}
use Rattle.vm_core.specs.Starting.{StartsRun, StopsStartingRun}
use Rattle.vm_core.proofs.Starts.{starts_run, Stopping, stops_starting}
use Rattle.std.specs.Prelude.{IfErr}
use Rattle.proc_run.specs.Sizes.{KeptAtStop}
use Rattle.vm_core.proofs.run.Core.start.Goals as goal

pub returns-clause-starts : goal.returns-clause-starts
returns-clause-starts g c ok =
    let old : Underway = record { machine = c.self.inside.machine; counted = c.self.inside.counted } in
    let new : Underway = record { machine = c.start.new.m; counted = c.self.inside.counted } in
    let holds = g.F.Files.holds c.args.files.now in
    let i = stores g.F.Files g.D.SwapDev c.args.files.now c.args.swap.now in
    let j = stores g.F.Files g.D.SwapDev c.start.new.files c.start.new.swap in
    subst (λ (u : Underway). StartsRun u new c.args.first.now holds i j) c.self.view_is
    (starts_run old new c.args.first.now holds i j c.requires.few (ap (λ (u : Underway). u.counted) c.self.view_is ∙ c.requires.fresh.counted) (c.start.ensures.goes_on ok)
    (λ A image told e. c.start.ensures.leads A image told e ok))

pub returns-clause-stops : goal.returns-clause-stops
returns-clause-stops g c =
    let holds = g.F.Files.holds c.args.files.now in
    let i = stores g.F.Files g.D.SwapDev c.args.files.now c.args.swap.now in
    let j = stores g.F.Files g.D.SwapDev c.start.new.files c.start.new.swap in
    subst (λ (u : Underway). Stopping c.start.result u.machine c.args.first.now holds i (λ A image stop. StopsStartingRun A c.start.new.m image stop j)) c.self.view_is
    (stops_starting c.start.result c.self.inside.machine c.start.new.m c.args.first.now holds i j c.requires.few c.start.ensures.stops)

pub returns-clause-kept : goal.returns-clause-kept
returns-clause-kept g c = subst (λ (u : Underway). IfErr c.start.result (KeptAtStop u.machine c.start.new.m)) c.self.view_is c.start.ensures.kept
