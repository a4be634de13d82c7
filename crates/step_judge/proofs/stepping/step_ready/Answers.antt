use Rattle.io_edge.specs.WithFiles.{stores}
use Rattle.step_judge.proofs.Stepped.{some_in, in_told, out_told}
use Rattle.step_judge.proofs.stepping.step_ready.Goals as goal

pub step_in-requires-clause-may : goal.step_in-requires-clause-may
step_in-requires-clause-may g c =
    some_in c.args.m.now c.args.counted c.args.begun (g.F.Files.holds c.args.files.now) (stores g.F.Files g.D.SwapDev c.args.files.now c.args.swap.now) c.args.pid c.in-Some.ensures.ready
    c.requires.soon

pub returns-in-Some-clause-told : goal.returns-in-Some-clause-told
returns-in-Some-clause-told g c =
    in_told c.args.m.now c.args.counted c.args.begun (g.F.Files.holds c.args.files.now) (stores g.F.Files g.D.SwapDev c.args.files.now c.args.swap.now) c.args.pid c.args.e.now
    c.step_in.new.m.kernel (stores g.F.Files g.D.SwapDev c.step_in.new.files c.step_in.new.swap) c.step_in.result c.in-Some.ensures.ready c.step_in.ensures.told

pub returns-in-None-clause-told : goal.returns-in-None-clause-told
returns-in-None-clause-told g c =
    out_told c.args.m.now c.args.counted c.args.begun (g.F.Files.holds c.args.files.now) (stores g.F.Files g.D.SwapDev c.args.files.now c.args.swap.now) c.args.pid c.args.e.now
    c.args.m.now.kernel (stores g.F.Files g.D.SwapDev c.args.files.now c.args.swap.now) (c.ready_regs.ensures.none c.in-None.is)
