use Rattle.io_edge.specs.WithFiles.{stores}
use Rattle.step_judge.proofs.Stepped.{some_begun, begun_left}
use Rattle.step_judge.proofs.stepping.step_on.Goals as goal

pub rest_told-requires-clause-acts : goal.rest_told-requires-clause-acts
rest_told-requires-clause-acts g c =
    some_begun c.args.m.now c.args.counted c.args.begun (g.F.Files.holds c.args.files.now) (stores g.F.Files g.D.SwapDev c.args.files.now c.args.swap.now) c.args.pid c.requires.may

pub returns-clause-told : goal.returns-clause-told
returns-clause-told g c =
    begun_left c.args.m.now c.args.counted c.args.begun (g.F.Files.holds c.args.files.now) (stores g.F.Files g.D.SwapDev c.args.files.now c.args.swap.now) c.args.pid c.args.e.now
    c.rest_told.new.m.kernel (stores g.F.Files g.D.SwapDev c.rest_told.new.files c.rest_told.new.swap) c.rest_told.result c.rest_told.ensures.told
