use Rattle.io_edge.specs.WithFiles.{stores}
use Rattle.std.proofs.Common.{true}
use Rattle.proc_run.specs.Stepped.{LeadsFrom, StopsFrom}
use Rattle.vm_core.proofs.Noting.{ok_weaker, stops_weaker}
use Rattle.vm_core.proofs.Dispatching.{finish_done, finish_stops}
use Rattle.vm_core.proofs.running.finish.Goals as goal
use Rattle.vm_core.specs.Closing.{ResidentTurn, TurnDone}
use Rattle.proc_run.specs.Running.{UnderMark, RunLeads}

pub returns-clause-done : goal.returns-clause-done
returns-clause-done g c =
    let old = c.args.m.now in
    let new = c.run.new.m in
    let holds = g.F.Files.holds c.args.files.now in
    let i = stores g.F.Files g.D.SwapDev c.args.files.now c.args.swap.now in
    let j = stores g.F.Files g.D.SwapDev c.run.new.files c.run.new.swap in
    let pid = c.args.pid in
    let counted = c.args.counted in
    let since = c.args.since in
    let until = c.count_behind-until.result in
    ok_weaker c.run.result (λ count. LeadsFrom (UnderMark old holds i pid true counted until) (RunLeads old.kernel pid true new.kernel j count))
    (λ count. LeadsFrom (ResidentTurn old holds i counted since pid) (TurnDone old new j pid count))
    (λ count f. finish_done old new holds i j pid counted since until count c.count_behind-until.ensures f) c.run.ensures.runs

pub returns-clause-stops : goal.returns-clause-stops
returns-clause-stops g c =
    let old = c.args.m.now in
    let new = c.run.new.m in
    let holds = g.F.Files.holds c.args.files.now in
    let i = stores g.F.Files g.D.SwapDev c.args.files.now c.args.swap.now in
    let j = stores g.F.Files g.D.SwapDev c.run.new.files c.run.new.swap in
    let pid = c.args.pid in
    let counted = c.args.counted in
    let since = c.args.since in
    let until = c.count_behind-until.result in
    stops_weaker c.run.result (λ stop. StopsFrom (UnderMark old holds i pid true counted until) old new j stop) (λ stop. StopsFrom (ResidentTurn old holds i counted since pid) old new j stop)
    (λ stop f. finish_stops old new holds i j pid counted since until stop c.count_behind-until.ensures f) c.run.ensures.stops
