use Rattle.io_edge.specs.WithFiles.{stores}
use Rattle.vm_core.specs.Stepped.{LeadsFrom, StopsFrom}
use Rattle.vm_core.proofs.Noting.{ok_so, stops_weaker}
use Rattle.film_core.proofs.Passing.{none_passes, over_past, over_turn, leads_past, leads_turn, stops_past, stops_turn}
use Rattle.film_core.proofs.going.pass.Goals as goal
use Rattle.film_core.specs.Ways.{OverAt, PastAt, OverBeforeTurn, RunsOut}

pub returns-in-Over-clause-over : goal.returns-in-Over-clause-over
returns-in-Over-clause-over g c =
    none_passes c.args.m.now c.args.lines.now c.args.taken c.args.counted c.args.last (g.F.Files.holds c.args.files.now)
    (stores g.F.Files g.D.SwapDev c.args.files.now c.args.swap.now) (c.next_of.ensures.over c.in-Over.is)

pub take_line-requires-clause-past : goal.take_line-requires-clause-past
take_line-requires-clause-past g c =
    over_past c.args.m.now c.args.lines.now c.args.taken c.args.counted c.args.last (g.F.Files.holds c.args.files.now)
    (stores g.F.Files g.D.SwapDev c.args.files.now c.args.swap.now) c.requires.past

pub returns-in-Line-clause-over : goal.returns-in-Line-clause-over
returns-in-Line-clause-over g c =
    let old = c.args.m.now in
    let new = c.take_line.new.m in
    let holds = g.F.Files.holds c.args.files.now in
    let i = stores g.F.Files g.D.SwapDev c.args.files.now c.args.swap.now in
    let j = stores g.F.Files g.D.SwapDev c.take_line.new.files c.take_line.new.swap in
    ok_so c.take_line.result (LeadsFrom (PastAt old c.args.lines.now c.args.taken c.args.counted holds i) (RunsOut old new j))
    (LeadsFrom (OverAt old c.args.lines.now c.args.taken c.args.counted c.args.last holds i) (RunsOut old new j))
    (leads_past old c.args.lines.now c.args.taken c.args.counted c.args.last holds i (RunsOut old new j)) c.take_line.ensures.over

pub returns-in-Line-clause-stops : goal.returns-in-Line-clause-stops
returns-in-Line-clause-stops g c =
    let old = c.args.m.now in
    let new = c.take_line.new.m in
    let holds = g.F.Files.holds c.args.files.now in
    let i = stores g.F.Files g.D.SwapDev c.args.files.now c.args.swap.now in
    let j = stores g.F.Files g.D.SwapDev c.take_line.new.files c.take_line.new.swap in
    stops_weaker c.take_line.result (λ stop. StopsFrom (PastAt old c.args.lines.now c.args.taken c.args.counted holds i) old new j stop)
    (λ stop. StopsFrom (OverAt old c.args.lines.now c.args.taken c.args.counted c.args.last holds i) old new j stop)
    (stops_past old new c.args.lines.now c.args.taken c.args.counted c.args.last holds i j) c.take_line.ensures.stops

pub take_turn-requires-clause-past : goal.take_turn-requires-clause-past
take_turn-requires-clause-past g c =
    over_turn c.args.m.now c.args.lines.now c.args.taken c.args.counted c.args.last c.in-Turn.pid (g.F.Files.holds c.args.files.now)
    (stores g.F.Files g.D.SwapDev c.args.files.now c.args.swap.now) (c.next_of.ensures.turn c.in-Turn.pid c.in-Turn.is).2 c.requires.past

pub returns-in-Turn-clause-over : goal.returns-in-Turn-clause-over
returns-in-Turn-clause-over g c =
    let old = c.args.m.now in
    let new = c.take_turn.new.m in
    let holds = g.F.Files.holds c.args.files.now in
    let i = stores g.F.Files g.D.SwapDev c.args.files.now c.args.swap.now in
    let j = stores g.F.Files g.D.SwapDev c.take_turn.new.files c.take_turn.new.swap in
    ok_so c.take_turn.result (LeadsFrom (OverBeforeTurn old c.args.lines.now c.args.taken c.args.counted c.in-Turn.pid holds i) (RunsOut old new j))
    (LeadsFrom (OverAt old c.args.lines.now c.args.taken c.args.counted c.args.last holds i) (RunsOut old new j))
    (leads_turn old c.args.lines.now c.args.taken c.args.counted c.args.last c.in-Turn.pid holds i (RunsOut old new j) (c.next_of.ensures.turn c.in-Turn.pid c.in-Turn.is).2)
    c.take_turn.ensures.over

pub returns-in-Turn-clause-stops : goal.returns-in-Turn-clause-stops
returns-in-Turn-clause-stops g c =
    let old = c.args.m.now in
    let new = c.take_turn.new.m in
    let holds = g.F.Files.holds c.args.files.now in
    let i = stores g.F.Files g.D.SwapDev c.args.files.now c.args.swap.now in
    let j = stores g.F.Files g.D.SwapDev c.take_turn.new.files c.take_turn.new.swap in
    stops_weaker c.take_turn.result (λ stop. StopsFrom (OverBeforeTurn old c.args.lines.now c.args.taken c.args.counted c.in-Turn.pid holds i) old new j stop)
    (λ stop. StopsFrom (OverAt old c.args.lines.now c.args.taken c.args.counted c.args.last holds i) old new j stop)
    (stops_turn old new c.args.lines.now c.args.taken c.args.counted c.args.last c.in-Turn.pid holds i j (c.next_of.ensures.turn c.in-Turn.pid c.in-Turn.is).2)
    c.take_turn.ensures.stops
