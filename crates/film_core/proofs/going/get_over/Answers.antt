use Rattle.io_edge.specs.WithFiles.{stores}
use Rattle.std.proofs.Common.{IfOk, IfErr, List, Option, sym, subst}
use Rattle.io_edge.specs.FileHolding.{NamedFile}
use Rattle.vm_core.specs.Stepped.{AtSome, LeadsFrom, StopsFrom}
use Rattle.vm_core.proofs.Noting.{stops_on, ok_weaker, stops_weaker}
use Rattle.film_core.proofs.Getting.{under_fits, under_way, way_stops, settled_rest, gets_over, rest_stops_under}
use Rattle.film_core.proofs.going.get_over.Goals as goal
use Rattle.film_core.specs.Ways.{RestAt, RestDone, UnderAt}

pub settle-requires-clause-more : goal.settle-requires-clause-more
settle-requires-clause-more g c =
    under_fits c.args.m.now c.args.mark c.args.counted (g.F.Files.holds c.args.files.now) (stores g.F.Files g.D.SwapDev c.args.files.now c.args.swap.now)
    c.requires.under

pub settle-requires-clause-way : goal.settle-requires-clause-way
settle-requires-clause-way g c =
    under_way c.args.m.now c.args.mark c.args.counted (g.F.Files.holds c.args.files.now) (stores g.F.Files g.D.SwapDev c.args.files.now c.args.swap.now)
    c.requires.under

pub returns-in_err-count-clause-stops : goal.returns-in_err-count-clause-stops
returns-in_err-count-clause-stops g c =
    let old = c.args.m.now in
    let new = c.settle.new.m in
    let holds = g.F.Files.holds c.args.files.now in
    let i = stores g.F.Files g.D.SwapDev c.args.files.now c.args.swap.now in
    let h = stores g.F.Files g.D.SwapDev c.settle.new.files c.settle.new.swap in
    let stop = c.in_err-count.field-0.0 in
    stops_on c.from_residual.result stop (StopsFrom (UnderAt old c.args.mark c.args.counted holds i) old new h) c.from_residual.ensures.1
    (way_stops old new c.args.mark c.args.counted holds i h stop c.in_err-count.ensures.stops)

pub rest-requires-clause-under : goal.rest-requires-clause-under
rest-requires-clause-under g c =
    let holds = g.F.Files.holds c.args.files.now in
    let i = stores g.F.Files g.D.SwapDev c.args.files.now c.args.swap.now in
    let h = stores g.F.Files g.D.SwapDev c.settle.new.files c.settle.new.swap in
    subst (λ (hs : Option (List NamedFile)). AtSome (RestAt c.settle.new.m c.args.mark c.in_ok-count.count hs h)) (sym c.in_ok-count.ensures.outside.files.holds)
    (settled_rest c.args.m.now c.settle.new.m c.args.mark c.args.counted c.in_ok-count.count holds i h c.in_ok-count.ensures.counts
    c.in_ok-count.ensures.settles c.requires.under)

pub returns-clause-over : goal.returns-clause-over
returns-clause-over g c =
    let old = c.args.m.now in
    let mid = c.settle.new.m in
    let new = c.rest.new.m in
    let holds = g.F.Files.holds c.args.files.now in
    let i = stores g.F.Files g.D.SwapDev c.args.files.now c.args.swap.now in
    let h = stores g.F.Files g.D.SwapDev c.settle.new.files c.settle.new.swap in
    let j = stores g.F.Files g.D.SwapDev c.rest.new.files c.rest.new.swap in
    ok_weaker c.rest.result (λ count. LeadsFrom (RestAt mid c.args.mark c.in_ok-count.count holds h) (RestDone mid new c.args.mark count j))
    (λ count. LeadsFrom (UnderAt old c.args.mark c.args.counted holds i) (RestDone old new c.args.mark count j))
    (λ count f. gets_over old mid new c.args.mark c.args.counted c.in_ok-count.count count holds i h j c.in_ok-count.ensures.counts c.in_ok-count.ensures.settles f)
    (subst (λ (hs : Option (List NamedFile)). IfOk c.rest.result (λ count. LeadsFrom (RestAt mid c.args.mark c.in_ok-count.count hs h) (RestDone mid new c.args.mark count j)))
    c.in_ok-count.ensures.outside.files.holds c.rest.ensures.rests)

pub returns-clause-stops : goal.returns-clause-stops
returns-clause-stops g c =
    let old = c.args.m.now in
    let mid = c.settle.new.m in
    let new = c.rest.new.m in
    let holds = g.F.Files.holds c.args.files.now in
    let i = stores g.F.Files g.D.SwapDev c.args.files.now c.args.swap.now in
    let h = stores g.F.Files g.D.SwapDev c.settle.new.files c.settle.new.swap in
    let j = stores g.F.Files g.D.SwapDev c.rest.new.files c.rest.new.swap in
    stops_weaker c.rest.result (λ stop. StopsFrom (RestAt mid c.args.mark c.in_ok-count.count holds h) mid new j stop)
    (λ stop. StopsFrom (UnderAt old c.args.mark c.args.counted holds i) old new j stop)
    (λ stop f. rest_stops_under old mid new c.args.mark c.args.counted c.in_ok-count.count holds i h j stop c.in_ok-count.ensures.counts
    c.in_ok-count.ensures.settles f)
    (subst (λ (hs : Option (List NamedFile)). IfErr c.rest.result (λ stop. StopsFrom (RestAt mid c.args.mark c.in_ok-count.count hs h) mid new j stop))
    c.in_ok-count.ensures.outside.files.holds c.rest.ensures.stops)
