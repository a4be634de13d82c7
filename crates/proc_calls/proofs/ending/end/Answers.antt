use Rattle.io_edge.specs.WithFiles.{stores}
use Rattle.proc_calls.proofs.Leaving.{can_end}
use Rattle.proc_calls.proofs.Stopping.{once_left}
use Rattle.proc_calls.proofs.ending.end.Goals as goal

pub flat-requires-clause-can : goal.flat-requires-clause-can
flat-requires-clause-can g c =
    can_end c.args.m.now c.leave_space.new.m c.args.pid (g.F.Files.holds c.args.files.now) (stores g.F.Files g.D.SwapDev c.args.files.now c.args.swap.now)
    (stores g.F.Files g.D.SwapDev c.leave_space.new.files c.leave_space.new.swap)
    c.requires.calls c.args.status c.in_ok-leave_space.ensures.left c.in_ok-leave_space.ensures.given

pub returns-clause-stops : goal.returns-clause-stops
returns-clause-stops g c =
    once_left c.flat.result c.args.m.now c.leave_space.new.m c.flat.new.self c.args.pid (g.F.Files.holds c.args.files.now) (stores g.F.Files g.D.SwapDev c.args.files.now c.args.swap.now)
    (stores g.F.Files g.D.SwapDev c.leave_space.new.files c.leave_space.new.swap)
    c.in_ok-leave_space.ensures.goes_on.asks.ready.whole c.in_ok-leave_space.ensures.left c.flat.ensures.stops
