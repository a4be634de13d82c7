use Rattle.swapper.proofs.PutUnits.{in_stops}
use Rattle.swapper.proofs.putting_out.swap_in.Goals as goal

pub returns-clause-stopped : goal.returns-clause-stopped
returns-clause-stopped g c =
    in_stops c.args.pid c.args.m.now c.u_in.new.self (g.D.SwapDev.image c.args.swap.now) (g.D.SwapDev.image c.u_in.new.swap) c.u_in.result
    c.u_in.ensures.stop c.u_in.ensures.cause c.u_in.ensures.full c.u_in.ensures.failed c.u_in.ensures.left c.requires.ready.whole
