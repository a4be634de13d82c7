use Rattle.io_edge.specs.WithFiles.{stores}
use Rattle.std.proofs.Common.{inl}
use Rattle.std.proofs.lemmas.Result.{err_from_is_err_and}
use Rattle.proc_calls.proofs.Fills.{can_fill, filled_by}
use Rattle.proc_calls.proofs.filling.fill_start.Goals as goal

pub returns-in_err-make_room-clause-filled : goal.returns-in_err-make_room-clause-filled
returns-in_err-make_room-clause-filled g c =
    let p = err_from_is_err_and c.from_residual.result c.from_residual.ensures.1 in
    rw (p.1, p.2) (inl c.in_err-make_room.ensures.stopped)

pub fill_zero-requires-clause-can : goal.fill_zero-requires-clause-can
fill_zero-requires-clause-can g c =
    can_fill c.args.page c.args.m.now c.make_room.new.m (g.F.Files.holds c.args.files.now) (stores g.F.Files g.D.SwapDev c.args.files.now c.args.swap.now)
    (stores g.F.Files g.D.SwapDev c.make_room.new.files c.make_room.new.swap)
    c.requires.asks.ready c.in_ok-make_room.ensures.goes_on.asks.ready c.requires.first c.in_ok-make_room.ensures.forced

pub returns-clause-filled : goal.returns-clause-filled
returns-clause-filled g c =
    let roomy = c.make_room.new.m in
    let j = stores g.F.Files g.D.SwapDev c.make_room.new.files c.make_room.new.swap in
    filled_by c.fill_zero.result c.args.page c.args.m.now roomy c.fill_zero.new.self (g.F.Files.holds c.args.files.now)
    (g.F.Files.holds c.make_room.new.files) (stores g.F.Files g.D.SwapDev c.args.files.now c.args.swap.now) j c.in_ok-make_room.ensures.goes_on.outside.files.holds
    c.in_ok-make_room.ensures.forced c.in_ok-make_room.ensures.keeps c.fill_zero.ensures.performs c.fill_zero.ensures.stops c.in_ok-make_room.ensures.goes_on.asks.ready.whole
