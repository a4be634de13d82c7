use Rattle.io_edge.specs.WithFiles.{stores}
use Rattle.std.proofs.Common.{sym, ◌∙◌}
use Rattle.std.proofs.lemmas.Result.{err_from_is_err_and}
use Rattle.proc_calls.proofs.Stopping.{own_stops, lent_left, lent_stops}
use Rattle.proc_calls.proofs.ending.leave_space.Goals as goal

pub returns-in_err-make_room-clause-stops : goal.returns-in_err-make_room-clause-stops
returns-in_err-make_room-clause-stops g c =
    let p = err_from_is_err_and c.from_residual.result c.from_residual.ensures.1 in
    rw (p.1, p.2)
    (lent_stops _ c.args.m.now c.make_room.new.self c.args.pid (g.F.Files.holds c.args.files.now) (stores g.F.Files g.D.SwapDev c.args.files.now c.args.swap.now)
    (sym c.is_borrower.ensures ∙ c.if-is_borrower.true)
    c.requires.calls.ready.whole c.in_err-make_room.ensures.stops)

pub returns-then-is_borrower-clause-left : goal.returns-then-is_borrower-clause-left
returns-then-is_borrower-clause-left g c =
    lent_left c.args.m.now c.make_room.new.self c.give_back.new.m c.args.pid (g.F.Files.holds c.args.files.now)
    (stores g.F.Files g.D.SwapDev c.args.files.now c.args.swap.now) (sym c.is_borrower.ensures ∙ c.if-is_borrower.true)
    c.in_ok-make_room.ensures.ok c.in_ok-make_room.ensures.has_room c.give_back.ensures.step

pub returns-clause-stops : goal.returns-clause-stops
returns-clause-stops g c =
    own_stops c.settle.result c.args.m.now c.settle.new.self c.args.pid c.space_of_pid-sid.result (g.F.Files.holds c.args.files.now) (stores g.F.Files g.D.SwapDev c.args.files.now c.args.swap.now)
    (stores g.F.Files g.D.SwapDev c.settle.new.files c.settle.new.swap)
    (sym c.is_borrower.ensures ∙ c.if-is_borrower.false) c.space_of_pid-sid.ensures c.settle.ensures.stops
