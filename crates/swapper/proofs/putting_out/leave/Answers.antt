use Rattle.io_edge.specs.WithFiles.{with_files}
use Rattle.machine_state.proofs.Besides.{wrote_beside, err_beside}
use Rattle.swapper.proofs.PutUnits.{put_last, out_stops, holder_resides, on_ok_with, beside_of}
use Rattle.swapper.proofs.putting_out.leave.Goals as goal

pub returns-clause-put : goal.returns-clause-put
returns-clause-put g c notes holds =
    let old = c.args.m.now in
    let new = c.u_out.new.self in
    let i = g.D.SwapDev.image c.args.swap.now in
    let j = g.D.SwapDev.image c.u_out.new.swap in
    on_ok_with c.u_out.result
    (λ e b w. put_last c.args.pid c.args.sid old new holds (with_files notes i) (with_files notes j)
    (holder_resides old.kernel c.args.pid c.args.sid c.requires.ready.running.numbered.residents c.requires.holds.holds) c.requires.resident c.requires.last e (beside_of old new b)
    (wrote_beside old.kernel c.args.pid i j notes w))
    c.u_out.ensures.step c.u_out.ensures.rest c.u_out.ensures.swapped

pub returns-clause-stopped : goal.returns-clause-stopped
returns-clause-stopped g c notes holds =
    let i = g.D.SwapDev.image c.args.swap.now in
    let j = g.D.SwapDev.image c.u_out.new.swap in
    out_stops c.args.pid c.args.sid c.args.m.now c.u_out.new.self holds (with_files notes i) (with_files notes j) c.u_out.result c.requires.resident c.requires.last
    c.u_out.ensures.stop c.u_out.ensures.cause c.u_out.ensures.full c.u_out.ensures.failed (err_beside c.u_out.result c.args.m.now.kernel c.args.pid i j notes c.u_out.ensures.spoiled)
    c.requires.ready.whole
