use Rattle.io_edge.specs.WithFiles.{stores}
use Rattle.std.proofs.Common.{OnOk, IfErr, List, Option, sym, subst}
use Rattle.io_edge.specs.FileHolding.{NamedFile}
use Rattle.vm_core.specs.Stepped.{AtSome, LeadsFrom, StopsFrom}
use Rattle.vm_core.proofs.Noting.{stops_on, ok_so, stops_weaker}
use Rattle.film_core.proofs.Getting.{going_under, leads_going, stops_going_on, going_past, going_wide, goes_over, stops_going}
use Rattle.film_core.proofs.going.go_further.Goals as goal
use Rattle.film_core.specs.Ways.{RestDone, OverAt, RunsOut, GoesAt}

pub get_over-requires-clause-under : goal.get_over-requires-clause-under
get_over-requires-clause-under g c =
    going_under c.args.m.now c.args.mark c.args.lines.now c.args.taken c.args.counted (g.F.Files.holds c.args.files.now)
    (stores g.F.Files g.D.SwapDev c.args.files.now c.args.swap.now) c.requires.going

pub returns-in_err-count-clause-stops : goal.returns-in_err-count-clause-stops
returns-in_err-count-clause-stops g c =
    let old = c.args.m.now in
    let new = c.get_over.new.m in
    let holds = g.F.Files.holds c.args.files.now in
    let i = stores g.F.Files g.D.SwapDev c.args.files.now c.args.swap.now in
    let h = stores g.F.Files g.D.SwapDev c.get_over.new.files c.get_over.new.swap in
    let stop = c.in_err-count.field-0.0 in
    stops_on c.from_residual.result stop (StopsFrom (GoesAt old c.args.mark c.args.lines.now c.args.taken c.args.counted holds i) old new h) c.from_residual.ensures.1
    (stops_going_on old new c.args.mark c.args.lines.now c.args.taken c.args.counted holds i h stop c.in_err-count.ensures.stops)

pub pass-requires-clause-wide : goal.pass-requires-clause-wide
pass-requires-clause-wide g c =
    let old = c.args.m.now in
    let mid = c.get_over.new.m in
    let holds = g.F.Files.holds c.args.files.now in
    let i = stores g.F.Files g.D.SwapDev c.args.files.now c.args.swap.now in
    let h = stores g.F.Files g.D.SwapDev c.get_over.new.files c.get_over.new.swap in
    going_wide old mid c.args.mark c.args.lines.now c.args.taken c.args.counted c.in_ok-count.count c.last_turned.result holds i h c.in_ok-count.ensures.on
    (leads_going old c.args.mark c.args.lines.now c.args.taken c.args.counted holds i (RestDone old mid c.args.mark c.in_ok-count.count h) c.in_ok-count.ensures.over)
    c.last_turned.ensures c.requires.going c.requires.wide

pub pass-requires-clause-past : goal.pass-requires-clause-past
pass-requires-clause-past g c =
    let old = c.args.m.now in
    let mid = c.get_over.new.m in
    let holds = g.F.Files.holds c.args.files.now in
    let i = stores g.F.Files g.D.SwapDev c.args.files.now c.args.swap.now in
    let h = stores g.F.Files g.D.SwapDev c.get_over.new.files c.get_over.new.swap in
    subst (λ (hs : Option (List NamedFile)). AtSome (OverAt c.get_over.new.m c.args.lines.now c.args.taken c.in_ok-count.count c.last_turned.result hs h))
    (sym c.in_ok-count.ensures.outside.files.holds)
    (going_past old mid c.args.mark c.args.lines.now c.args.taken c.args.counted c.in_ok-count.count c.last_turned.result holds i h c.in_ok-count.ensures.on
    (leads_going old c.args.mark c.args.lines.now c.args.taken c.args.counted holds i (RestDone old mid c.args.mark c.in_ok-count.count h) c.in_ok-count.ensures.over)
    c.last_turned.ensures c.requires.going)

pub returns-clause-over : goal.returns-clause-over
returns-clause-over g c =
    let old = c.args.m.now in
    let mid = c.get_over.new.m in
    let new = c.pass.new.m in
    let holds = g.F.Files.holds c.args.files.now in
    let i = stores g.F.Files g.D.SwapDev c.args.files.now c.args.swap.now in
    let h = stores g.F.Files g.D.SwapDev c.get_over.new.files c.get_over.new.swap in
    let j = stores g.F.Files g.D.SwapDev c.pass.new.files c.pass.new.swap in
    ok_so c.pass.result (LeadsFrom (OverAt mid c.args.lines.now c.args.taken c.in_ok-count.count c.last_turned.result holds h) (RunsOut mid new j))
    (LeadsFrom (GoesAt old c.args.mark c.args.lines.now c.args.taken c.args.counted holds i) (RunsOut old new j))
    (goes_over old mid c.args.mark c.args.lines.now c.args.taken c.args.counted c.in_ok-count.count c.last_turned.result holds i h c.in_ok-count.ensures.on
    (leads_going old c.args.mark c.args.lines.now c.args.taken c.args.counted holds i (RestDone old mid c.args.mark c.in_ok-count.count h) c.in_ok-count.ensures.over)
    c.last_turned.ensures new j)
    (subst (λ (hs : Option (List NamedFile)). OnOk c.pass.result (LeadsFrom (OverAt mid c.args.lines.now c.args.taken c.in_ok-count.count c.last_turned.result hs h) (RunsOut mid new j)))
    c.in_ok-count.ensures.outside.files.holds c.pass.ensures.over)

pub returns-clause-stops : goal.returns-clause-stops
returns-clause-stops g c =
    let old = c.args.m.now in
    let mid = c.get_over.new.m in
    let new = c.pass.new.m in
    let holds = g.F.Files.holds c.args.files.now in
    let i = stores g.F.Files g.D.SwapDev c.args.files.now c.args.swap.now in
    let h = stores g.F.Files g.D.SwapDev c.get_over.new.files c.get_over.new.swap in
    let j = stores g.F.Files g.D.SwapDev c.pass.new.files c.pass.new.swap in
    stops_weaker c.pass.result (λ stop. StopsFrom (OverAt mid c.args.lines.now c.args.taken c.in_ok-count.count c.last_turned.result holds h) mid new j stop)
    (λ stop. StopsFrom (GoesAt old c.args.mark c.args.lines.now c.args.taken c.args.counted holds i) old new j stop)
    (stops_going old mid c.args.mark c.args.lines.now c.args.taken c.args.counted c.in_ok-count.count c.last_turned.result holds i h c.in_ok-count.ensures.on
    (leads_going old c.args.mark c.args.lines.now c.args.taken c.args.counted holds i (RestDone old mid c.args.mark c.in_ok-count.count h) c.in_ok-count.ensures.over)
    c.last_turned.ensures new j)
    (subst (λ (hs : Option (List NamedFile)). IfErr c.pass.result (λ stop. StopsFrom (OverAt mid c.args.lines.now c.args.taken c.in_ok-count.count c.last_turned.result hs h) mid new j stop))
    c.in_ok-count.ensures.outside.files.holds
    c.pass.ensures.stops)
