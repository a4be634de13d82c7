use Rattle.io_edge.specs.WithFiles.{stores}
use Rattle.std.proofs.Common.{◌+◌, arith}
use Rattle.vm_core.specs.Stepped.{LeadsFrom, StopsFrom}
use Rattle.vm_core.proofs.Noting.{stops_on, ok_so, stops_weaker}
use Rattle.film_core.proofs.Passing.{some_there, line_round, line_passes, line_stops_passing, line_noting}
use Rattle.film_core.proofs.going.take_line.Goals as goal
use Rattle.film_core.specs.Ways.{PastAt, RunsOut, RoundAt}

pub returns-in_err-note-clause-stops : goal.returns-in_err-note-clause-stops
returns-in_err-note-clause-stops g c =
    let old = c.args.m.now in
    let new = c.note.new.m in
    let holds = g.F.Files.holds c.args.files.now in
    let i = stores g.F.Files g.D.SwapDev c.args.files.now c.args.swap.now in
    let stop = c.in_err-note.field-0.0 in
    stops_on c.from_residual.result stop (StopsFrom (PastAt old c.args.lines.now c.args.taken c.args.counted holds i) old new i) c.from_residual.ensures.1
    (line_noting old new c.args.lines.now c.args.taken c.args.counted holds i c.args.e stop c.requires.below c.requires.event c.in_err-note.ensures.stops)

pub overflow_add-taken-2 : goal.overflow_add-taken-2
overflow_add-taken-2 g c =
    let there = some_there c.args.lines.now c.args.taken c.args.e c.requires.event in
    let few = c.requires.count in
    omega (arith, there, few)

pub round-requires-clause-round : goal.round-requires-clause-round
round-requires-clause-round g c =
    line_round c.args.m.now c.note.new.m c.note.new.m c.mark_of_event-mark.result c.args.lines.now c.args.taken c.args.counted (g.F.Files.holds c.args.files.now)
    (stores g.F.Files g.D.SwapDev c.args.files.now c.args.swap.now) (stores g.F.Files g.D.SwapDev c.args.files.now c.args.swap.now)
    c.args.e c.requires.below c.requires.event c.requires.few c.in_ok-note.ensures.steady c.in_ok-note.ensures.step c.mark_of_event-mark.ensures c.requires.past

pub returns-clause-over : goal.returns-clause-over
returns-clause-over g c =
    let old = c.args.m.now in
    let mid = c.note.new.m in
    let new = c.round.new.m in
    let holds = g.F.Files.holds c.args.files.now in
    let i = stores g.F.Files g.D.SwapDev c.args.files.now c.args.swap.now in
    let j = stores g.F.Files g.D.SwapDev c.round.new.files c.round.new.swap in
    ok_so c.round.result (LeadsFrom (RoundAt mid c.mark_of_event-mark.result c.args.lines.now (c.args.taken + 1) c.args.counted holds i) (RunsOut mid new j))
    (LeadsFrom (PastAt old c.args.lines.now c.args.taken c.args.counted holds i) (RunsOut old new j))
    (line_passes old mid new c.mark_of_event-mark.result c.args.lines.now c.args.taken c.args.counted holds i j c.args.e c.requires.below c.requires.event c.requires.few
    c.in_ok-note.ensures.steady c.in_ok-note.ensures.step c.mark_of_event-mark.ensures) c.round.ensures.rounds

pub returns-clause-stops : goal.returns-clause-stops
returns-clause-stops g c =
    let old = c.args.m.now in
    let mid = c.note.new.m in
    let new = c.round.new.m in
    let holds = g.F.Files.holds c.args.files.now in
    let i = stores g.F.Files g.D.SwapDev c.args.files.now c.args.swap.now in
    let j = stores g.F.Files g.D.SwapDev c.round.new.files c.round.new.swap in
    stops_weaker c.round.result (λ stop. StopsFrom (RoundAt mid c.mark_of_event-mark.result c.args.lines.now (c.args.taken + 1) c.args.counted holds i) mid new j stop)
    (λ stop. StopsFrom (PastAt old c.args.lines.now c.args.taken c.args.counted holds i) old new j stop)
    (line_stops_passing old mid new c.mark_of_event-mark.result c.args.lines.now c.args.taken c.args.counted holds i j c.args.e c.requires.below c.requires.event c.requires.few
    c.in_ok-note.ensures.steady c.in_ok-note.ensures.step c.mark_of_event-mark.ensures) c.round.ensures.stops
