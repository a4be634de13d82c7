use Rattle.io_edge.specs.WithFiles.{stores}
use Rattle.vm_core.proofs.Noting.{stops_on, ok_so, stops_weaker}
use Rattle.run_model.specs.declared.mark.Mark.TheVariants as marks
use Rattle.vm_core.specs.Stepped.{LeadsFrom, StopsFrom}
use Rattle.film_core.proofs.Passing.{turn_round, turn_passes, turn_stops_passing, turn_noting}
use Rattle.film_core.proofs.going.take_turn.Goals as goal
use Rattle.film_core.specs.Ways.{OverBeforeTurn, RunsOut, RoundAt}

pub returns-in_err-note-clause-stops : goal.returns-in_err-note-clause-stops
returns-in_err-note-clause-stops g c =
    let old = c.args.m.now in
    let new = c.note.new.m in
    let holds = g.F.Files.holds c.args.files.now in
    let i = stores g.F.Files g.D.SwapDev c.args.files.now c.args.swap.now in
    let stop = c.in_err-note.field-0.0 in
    stops_on c.from_residual.result stop (StopsFrom (OverBeforeTurn old c.args.lines.now c.args.taken c.args.counted c.args.pid holds i) old new i) c.from_residual.ensures.1
    (turn_noting old new c.args.lines.now c.args.taken c.args.counted holds i c.args.pid stop c.requires.below c.requires.behind c.in_err-note.ensures.stops)

pub round-requires-clause-round : goal.round-requires-clause-round
round-requires-clause-round g c =
    turn_round c.args.m.now c.note.new.m c.note.new.m c.args.lines.now c.args.taken c.args.counted (g.F.Files.holds c.args.files.now)
    (stores g.F.Files g.D.SwapDev c.args.files.now c.args.swap.now)
    (stores g.F.Files g.D.SwapDev c.args.files.now c.args.swap.now)
    c.args.pid c.requires.below c.requires.behind c.in_ok-note.ensures.steady c.in_ok-note.ensures.step c.requires.past

pub returns-clause-over : goal.returns-clause-over
returns-clause-over g c =
    let old = c.args.m.now in
    let mid = c.note.new.m in
    let new = c.round.new.m in
    let holds = g.F.Files.holds c.args.files.now in
    let i = stores g.F.Files g.D.SwapDev c.args.files.now c.args.swap.now in
    let j = stores g.F.Files g.D.SwapDev c.round.new.files c.round.new.swap in
    ok_so c.round.result (LeadsFrom (RoundAt mid (marks.Turn c.args.pid c.args.counted) c.args.lines.now c.args.taken c.args.counted holds i) (RunsOut mid new j))
    (LeadsFrom (OverBeforeTurn old c.args.lines.now c.args.taken c.args.counted c.args.pid holds i) (RunsOut old new j))
    (turn_passes old mid new c.args.lines.now c.args.taken c.args.counted holds i j c.args.pid c.requires.below c.requires.behind c.in_ok-note.ensures.steady
    c.in_ok-note.ensures.step) c.round.ensures.rounds

pub returns-clause-stops : goal.returns-clause-stops
returns-clause-stops g c =
    let old = c.args.m.now in
    let mid = c.note.new.m in
    let new = c.round.new.m in
    let holds = g.F.Files.holds c.args.files.now in
    let i = stores g.F.Files g.D.SwapDev c.args.files.now c.args.swap.now in
    let j = stores g.F.Files g.D.SwapDev c.round.new.files c.round.new.swap in
    stops_weaker c.round.result (λ stop. StopsFrom (RoundAt mid (marks.Turn c.args.pid c.args.counted) c.args.lines.now c.args.taken c.args.counted holds i) mid new j stop)
    (λ stop. StopsFrom (OverBeforeTurn old c.args.lines.now c.args.taken c.args.counted c.args.pid holds i) old new j stop)
    (turn_stops_passing old mid new c.args.lines.now c.args.taken c.args.counted holds i j c.args.pid c.requires.below c.requires.behind
    c.in_ok-note.ensures.steady c.in_ok-note.ensures.step) c.round.ensures.stops
