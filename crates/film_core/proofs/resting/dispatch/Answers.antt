use Rattle.io_edge.specs.WithFiles.{stores}
use Rattle.std.proofs.Common.{false}
use Rattle.run_model.specs.declared.mark.Mark.TheVariants as marks
use Rattle.vm_core.specs.Stepped.{LeadsFrom, StopsFrom}
use Rattle.vm_core.specs.Running.{CountsTo, UnderMark, RunLeads}
use Rattle.vm_core.proofs.Noting.{ok_weaker, stops_weaker}
use Rattle.film_core.specs.Ways.{StaysOn, RestAt, RestDone}
use Rattle.film_core.proofs.RestsMade.{dispatch_rests, dispatch_stops, counts_stay}
use Rattle.film_core.proofs.resting.dispatch.Goals as goal

pub returns-clause-rests : goal.returns-clause-rests
returns-clause-rests g c =
    let old = c.args.m.now in
    let new = c.run.new.m in
    let holds = g.F.Files.holds c.args.files.now in
    let i = stores g.F.Files g.D.SwapDev c.args.files.now c.args.swap.now in
    let j = stores g.F.Files g.D.SwapDev c.run.new.files c.run.new.swap in
    let until = c.count_behind-until.result in
    ok_weaker c.run.result (λ count. LeadsFrom (UnderMark old holds i c.args.pid false c.args.counted until) (RunLeads old.kernel c.args.pid false new.kernel j count))
    (λ count. LeadsFrom (RestAt old (marks.Dispatch c.args.pid c.args.more c.args.since) c.args.counted holds i) (RestDone old new (marks.Dispatch c.args.pid c.args.more c.args.since) count j))
    (λ count f. dispatch_rests old new c.args.pid c.args.more c.args.since c.args.counted until count holds i j c.count_behind-until.ensures f) c.run.ensures.runs

pub returns-clause-stops : goal.returns-clause-stops
returns-clause-stops g c =
    let old = c.args.m.now in
    let new = c.run.new.m in
    let holds = g.F.Files.holds c.args.files.now in
    let i = stores g.F.Files g.D.SwapDev c.args.files.now c.args.swap.now in
    let j = stores g.F.Files g.D.SwapDev c.run.new.files c.run.new.swap in
    let until = c.count_behind-until.result in
    stops_weaker c.run.result (λ stop. StopsFrom (UnderMark old holds i c.args.pid false c.args.counted until) old new j stop)
    (λ stop. StopsFrom (RestAt old (marks.Dispatch c.args.pid c.args.more c.args.since) c.args.counted holds i) old new j stop)
    (λ stop f. dispatch_stops old new c.args.pid c.args.more c.args.since c.args.counted until holds i j stop c.count_behind-until.ensures f) c.run.ensures.stops

pub returns-clause-on : goal.returns-clause-on
returns-clause-on g c =
    let old = c.args.m.now in
    let new = c.run.new.m in
    ok_weaker c.run.result (λ count. CountsTo old new c.args.counted count) (λ count. StaysOn old new count) (λ count t. counts_stay old new c.args.counted count t) c.run.ensures.counts
