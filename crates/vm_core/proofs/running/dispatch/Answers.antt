use Rattle.io_edge.specs.WithFiles.{stores}
use Rattle.std.proofs.Common.{false}
use Rattle.vm_facts.specs.declared.event.Event.TheVariants as events
use Rattle.proc_run.specs.Stepped.{LeadsFrom, StopsFrom}
use Rattle.vm_core.proofs.Noting.{ok_weaker, stops_weaker}
use Rattle.vm_core.proofs.Dispatching.{dispatch_done, dispatch_stops}
use Rattle.vm_core.proofs.running.dispatch.Goals as goal
use Rattle.proc_run.specs.Running.{UnderMark, RunLeads}
use Rattle.vm_core.specs.Cores.{AskedAt, LineDone}

pub returns-clause-done : goal.returns-clause-done
returns-clause-done g c =
    let old = c.args.m.now in
    let new = c.run.new.m in
    let holds = g.F.Files.holds c.args.files.now in
    let i = stores g.F.Files g.D.SwapDev c.args.files.now c.args.swap.now in
    let j = stores g.F.Files g.D.SwapDev c.run.new.files c.run.new.swap in
    let pid = c.args.pid in
    let counted = c.args.counted in
    let until = c.count_behind-until.result in
    ok_weaker c.run.result (λ count. LeadsFrom (UnderMark old holds i pid false counted until) (RunLeads old.kernel pid false new.kernel j count))
    (λ count. LeadsFrom (AskedAt old holds i counted (events.Dispatch pid c.args.count)) (LineDone old new j count))
    (λ count f. dispatch_done old new holds i j pid c.args.count counted until count c.count_behind-until.ensures f) c.run.ensures.runs

pub returns-clause-stops : goal.returns-clause-stops
returns-clause-stops g c =
    let old = c.args.m.now in
    let new = c.run.new.m in
    let holds = g.F.Files.holds c.args.files.now in
    let i = stores g.F.Files g.D.SwapDev c.args.files.now c.args.swap.now in
    let j = stores g.F.Files g.D.SwapDev c.run.new.files c.run.new.swap in
    let pid = c.args.pid in
    let counted = c.args.counted in
    let until = c.count_behind-until.result in
    stops_weaker c.run.result (λ stop. StopsFrom (UnderMark old holds i pid false counted until) old new j stop)
    (λ stop. StopsFrom (AskedAt old holds i counted (events.Dispatch pid c.args.count)) old new j stop)
    (λ stop f. dispatch_stops old new holds i j pid c.args.count counted until stop c.count_behind-until.ensures f) c.run.ensures.stops
