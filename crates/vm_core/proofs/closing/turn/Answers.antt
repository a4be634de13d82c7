use Rattle.io_edge.specs.WithFiles.{stores}
use Rattle.std.proofs.Common.{IfOk, IfErr, ◌∙◌, subst, arith}
use Rattle.proc_run.specs.Running.{CountsTo}
use Rattle.vm_core.proofs.Noting.{stops_on, stops_weaker, ok_two}
use Rattle.vm_core.proofs.Turns.{has_turn, turn_noting_stops, turn_coming_stops, turn_finish_stops}
use Rattle.proc_run.specs.Sizes.{KeptAtStop}
use Rattle.proc_run.specs.Stepped.{LeadsFrom, StopsFrom}
use Rattle.proc_run.proofs.StopsKeep.{kept_through}
use Rattle.vm_core.proofs.closing.turn.Goals as goal
use Rattle.vm_core.specs.Closing.{ResidentTurn, DueTurn, TurnDone, TurnHad}

pub returns-in_err-note-clause-stops : goal.returns-in_err-note-clause-stops
returns-in_err-note-clause-stops g c =
    let old = c.args.m.now in
    let holds = g.F.Files.holds c.args.files.now in
    let i = stores g.F.Files g.D.SwapDev c.args.files.now c.args.swap.now in
    stops_on c.from_residual.result c.in_err-note.field-0.0 (StopsFrom (DueTurn old holds i c.args.counted c.args.pid) old c.note.new.m i) c.from_residual.ensures.1
    (turn_noting_stops old c.note.new.m c.args.pid c.args.counted holds i c.in_err-note.field-0.0 c.in_err-note.ensures.stops)

pub returns-in_err-come_in-clause-stops : goal.returns-in_err-come_in-clause-stops
returns-in_err-come_in-clause-stops g c =
    let old = c.args.m.now in
    let holds = g.F.Files.holds c.args.files.now in
    let i = stores g.F.Files g.D.SwapDev c.args.files.now c.args.swap.now in
    let j = stores g.F.Files g.D.SwapDev c.come_in.new.files c.come_in.new.swap in
    stops_on c.from_residual-in_err-come_in.result c.in_err-come_in.field-0.0 (StopsFrom (DueTurn old holds i c.args.counted c.args.pid) old c.come_in.new.m j) c.from_residual-in_err-come_in.ensures.1
    (turn_coming_stops old c.note.new.m c.come_in.new.m c.args.pid c.args.counted holds i j c.in_err-come_in.field-0.0 c.in_ok-note.ensures.steady c.in_ok-note.ensures.step
    (c.in_err-come_in.ensures.stops c.args.counted c.args.counted))

pub finish-requires-clause-counted : goal.finish-requires-clause-counted
finish-requires-clause-counted g c =
    let a = c.in_ok-note.ensures.steady.counted in
    let b = c.in_ok-come_in.ensures.steady.counted in
    let e = c.requires.counted in
    omega arith

pub returns-clause-had : goal.returns-clause-had
returns-clause-had g c =
    let old = c.args.m.now in
    let holds = g.F.Files.holds c.args.files.now in
    let i = stores g.F.Files g.D.SwapDev c.args.files.now c.args.swap.now in
    let in_ = c.come_in.new.m in
    let new = c.finish.new.m in
    let h = stores g.F.Files g.D.SwapDev c.come_in.new.files c.come_in.new.swap in
    let j = stores g.F.Files g.D.SwapDev c.finish.new.files c.finish.new.swap in
    ok_two c.finish.result (λ count. LeadsFrom (ResidentTurn in_ holds h c.args.counted c.args.counted c.args.pid) (TurnDone in_ new j c.args.pid count))
    (λ count. CountsTo in_ new c.args.counted count)
    (λ count. LeadsFrom (DueTurn old holds i c.args.counted c.args.pid) (TurnHad old new holds j c.args.pid count))
    (λ count f to. has_turn old c.note.new.m in_ new c.args.pid c.args.counted count holds i h j c.in_ok-note.ensures.steady c.in_ok-note.ensures.step
    (c.in_ok-come_in.ensures.comes c.args.counted c.args.counted) f to)
    (subst (λ hs. IfOk c.finish.result (λ count. LeadsFrom (ResidentTurn in_ hs h c.args.counted c.args.counted c.args.pid) (TurnDone in_ new j c.args.pid count)))
    c.in_ok-come_in.ensures.outside.files.holds c.finish.ensures.done) c.finish.ensures.counts

pub returns-clause-stops : goal.returns-clause-stops
returns-clause-stops g c =
    let old = c.args.m.now in
    let holds = g.F.Files.holds c.args.files.now in
    let i = stores g.F.Files g.D.SwapDev c.args.files.now c.args.swap.now in
    let in_ = c.come_in.new.m in
    let new = c.finish.new.m in
    let h = stores g.F.Files g.D.SwapDev c.come_in.new.files c.come_in.new.swap in
    let j = stores g.F.Files g.D.SwapDev c.finish.new.files c.finish.new.swap in
    stops_weaker c.finish.result (λ stop. StopsFrom (ResidentTurn in_ holds h c.args.counted c.args.counted c.args.pid) in_ new j stop)
    (λ stop. StopsFrom (DueTurn old holds i c.args.counted c.args.pid) old new j stop)
    (λ stop f. turn_finish_stops old c.note.new.m in_ new c.args.pid c.args.counted holds i h j stop c.in_ok-note.ensures.steady c.in_ok-note.ensures.step
    (c.in_ok-come_in.ensures.comes c.args.counted c.args.counted) f)
    (subst (λ hs. IfErr c.finish.result (λ stop. StopsFrom (ResidentTurn in_ hs h c.args.counted c.args.counted c.args.pid) in_ new j stop))
    c.in_ok-come_in.ensures.outside.files.holds c.finish.ensures.stops)

pub returns-in_err-note-clause-kept : goal.returns-in_err-note-clause-kept
returns-in_err-note-clause-kept g c =
    stops_on c.from_residual.result c.in_err-note.field-0.0 (KeptAtStop c.args.m.now c.note.new.m) c.from_residual.ensures.1 c.in_err-note.ensures.kept

pub returns-in_err-come_in-clause-kept : goal.returns-in_err-come_in-clause-kept
returns-in_err-come_in-clause-kept g c =
    let noted = c.in_ok-note.ensures.steady in
    stops_on c.from_residual-in_err-come_in.result c.in_err-come_in.field-0.0 (KeptAtStop c.args.m.now c.come_in.new.m) c.from_residual-in_err-come_in.ensures.1
    (kept_through c.args.m.now c.note.new.m c.come_in.new.m c.in_err-come_in.field-0.0 (record { params = noted.params; images = noted.images }) c.in_err-come_in.ensures.kept)

pub returns-clause-kept : goal.returns-clause-kept
returns-clause-kept g c =
    let noted = c.in_ok-note.ensures.steady in
    let come = c.in_ok-come_in.ensures.steady in
    stops_weaker c.finish.result (KeptAtStop c.come_in.new.m c.finish.new.m) (KeptAtStop c.args.m.now c.finish.new.m)
    (λ stop k. kept_through c.args.m.now c.come_in.new.m c.finish.new.m stop (record { params = come.params ∙ noted.params; images = come.images ∙ noted.images }) k) c.finish.ensures.kept
