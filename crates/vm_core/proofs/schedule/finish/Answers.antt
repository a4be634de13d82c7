use Rattle.io_edge.specs.WithFiles.{stores}
use Rattle.std.proofs.Common.{length, subst}
use Rattle.vm_core.proofs.Going.{limit_finishes, closing_finishes, closing_stops}
use Rattle.vm_core.proofs.Noting.{stops_on, stops_weaker, ok_so}
use Rattle.proc_run.specs.Sizes.{KeptAtStop}
use Rattle.proc_run.specs.Stepped.{LeadsFrom, StopsFrom}
use Rattle.proc_run.proofs.StopsKeep.{kept_through}
use Rattle.vm_core.proofs.schedule.finish.Goals as goal
use Rattle.vm_core.specs.Closing.{AllTaken, Closed}
use Rattle.vm_core.specs.Schedules.{IsBeforeLines, LinesWent, LinesFinished}
use Rattle.vm_core.specs.Accounts.{StopsAccountedFrom}

pub returns-in-LimitReached-clause-finishes : goal.returns-in-LimitReached-clause-finishes
returns-in-LimitReached-clause-finishes g c =
    let holds = g.F.Files.holds c.args.files.now in
    let i = stores g.F.Files g.D.SwapDev c.args.files.now c.args.swap.now in
    let h = stores g.F.Files g.D.SwapDev c.take_lines.new.files c.take_lines.new.swap in
    limit_finishes c.args.core.now c.take_lines.new.core c.args.lines.now holds i h
    (subst (λ went. LeadsFrom (IsBeforeLines c.args.core.now c.args.lines.now holds i) (LinesWent c.args.core.now c.take_lines.new.core went (length c.args.lines.now) holds h)) c.in-LimitReached.is
    c.in_ok-take_lines.ensures.takes)

pub returns-in-Next-clause-finishes : goal.returns-in-Next-clause-finishes
returns-in-Next-clause-finishes g c =
    let holds = g.F.Files.holds c.args.files.now in
    let i = stores g.F.Files g.D.SwapDev c.args.files.now c.args.swap.now in
    let h = stores g.F.Files g.D.SwapDev c.take_lines.new.files c.take_lines.new.swap in
    let j = stores g.F.Files g.D.SwapDev c.close_run.new.files c.close_run.new.swap in
    ok_so c.close_run.result (LeadsFrom (AllTaken c.take_lines.new.core (g.F.Files.holds c.take_lines.new.files) h)
    (Closed c.take_lines.new.core.machine c.close_run.new.self.machine (g.F.Files.holds c.take_lines.new.files) j c.close_run.new.self.counted))
    (LeadsFrom (IsBeforeLines c.args.core.now c.args.lines.now holds i) (LinesFinished c.args.core.now c.close_run.new.self j))
    (λ x. closing_finishes c.args.core.now c.take_lines.new.core c.close_run.new.self c.args.lines.now holds i h j
    (subst (λ went. LeadsFrom (IsBeforeLines c.args.core.now c.args.lines.now holds i) (LinesWent c.args.core.now c.take_lines.new.core went (length c.args.lines.now) holds h)) c.in-Next.is
    c.in_ok-take_lines.ensures.takes)
    (subst (λ hs. LeadsFrom (AllTaken c.take_lines.new.core hs h) (Closed c.take_lines.new.core.machine c.close_run.new.self.machine hs j c.close_run.new.self.counted))
    c.take_lines.ensures.outside.files.holds x))
    c.close_run.ensures.closes

pub returns-in-Next-clause-stops : goal.returns-in-Next-clause-stops
returns-in-Next-clause-stops g c =
    let holds = g.F.Files.holds c.args.files.now in
    let i = stores g.F.Files g.D.SwapDev c.args.files.now c.args.swap.now in
    let h = stores g.F.Files g.D.SwapDev c.take_lines.new.files c.take_lines.new.swap in
    let j = stores g.F.Files g.D.SwapDev c.close_run.new.files c.close_run.new.swap in
    stops_weaker c.close_run.result (StopsAccountedFrom (AllTaken c.take_lines.new.core (g.F.Files.holds c.take_lines.new.files) h) c.take_lines.new.core.machine c.close_run.new.self.machine j)
    (StopsFrom (IsBeforeLines c.args.core.now c.args.lines.now holds i) c.args.core.now.machine c.close_run.new.self.machine j)
    (λ stop x. closing_stops c.args.core.now c.take_lines.new.core c.close_run.new.self c.args.lines.now holds i h j stop
    (subst (λ went. LeadsFrom (IsBeforeLines c.args.core.now c.args.lines.now holds i) (LinesWent c.args.core.now c.take_lines.new.core went (length c.args.lines.now) holds h)) c.in-Next.is
    c.in_ok-take_lines.ensures.takes)
    (subst (λ hs. StopsAccountedFrom (AllTaken c.take_lines.new.core hs h) c.take_lines.new.core.machine c.close_run.new.self.machine j stop) c.take_lines.ensures.outside.files.holds x))
    c.close_run.ensures.stops

pub returns-in_err-take_lines-clause-kept : goal.returns-in_err-take_lines-clause-kept
returns-in_err-take_lines-clause-kept g c =
    stops_on c.from_residual.result c.in_err-take_lines.field-0.0 (KeptAtStop c.args.core.now.machine c.take_lines.new.core.machine) c.from_residual.ensures.1 c.in_err-take_lines.ensures.kept

pub returns-in-Next-clause-kept : goal.returns-in-Next-clause-kept
returns-in-Next-clause-kept g c =
    stops_weaker c.close_run.result (KeptAtStop c.take_lines.new.core.machine c.close_run.new.self.machine) (KeptAtStop c.args.core.now.machine c.close_run.new.self.machine)
    (λ stop k. kept_through c.args.core.now.machine c.take_lines.new.core.machine c.close_run.new.self.machine stop
    (record { params = c.in_ok-take_lines.ensures.params; images = c.in_ok-take_lines.ensures.images }) k) c.close_run.ensures.kept
