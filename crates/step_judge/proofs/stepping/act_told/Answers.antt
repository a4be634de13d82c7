use Rattle.io_edge.specs.WithFiles.{stores}
use Rattle.std.proofs.Common.{None}
use Rattle.step_judge.specs.At.{ActsAt}
use Rattle.step_judge.specs.Told.{GoesOnWith}
use Rattle.step_judge.proofs.Stepped.{steady_of, few_of, ready_of}
use Rattle.step_judge.proofs.Tellings.{last_told, on_told}
use Rattle.step_judge.proofs.stepping.act_told.Goals as goal

pub make_act-requires-clause-steady : goal.make_act-requires-clause-steady
make_act-requires-clause-steady g c =
    let m = c.args.m.now in
    let holds = g.F.Files.holds c.args.files.now in
    let i = stores g.F.Files g.D.SwapDev c.args.files.now c.args.swap.now in
    steady_of m c.args.counted None holds i c.args.pid (ready_of m c.args.counted None holds i c.args.pid c.requires.acts) c.requires.asks.ready c.requires.low

pub make_act-requires-clause-few : goal.make_act-requires-clause-few
make_act-requires-clause-few g c =
    let m = c.args.m.now in
    let holds = g.F.Files.holds c.args.files.now in
    let i = stores g.F.Files g.D.SwapDev c.args.files.now c.args.swap.now in
    few_of m c.args.counted None holds i c.args.pid (ready_of m c.args.counted None holds i c.args.pid c.requires.acts)

pub returns-clause-told : goal.returns-clause-told
returns-clause-told g c =
    last_told (ActsAt c.args.m.now c.args.counted None (g.F.Files.holds c.args.files.now) (stores g.F.Files g.D.SwapDev c.args.files.now c.args.swap.now) c.args.pid) c.args.e.now c.args.pid
    c.args.m.now.kernel c.make_act.new.m.kernel (stores g.F.Files g.D.SwapDev c.make_act.new.files c.make_act.new.swap) c.journal.result.now c.told_by.result c.journal.ensures c.told_by.ensures
    c.in_ok-make_act.ensures.made

pub returns-clause-on : goal.returns-clause-on
returns-clause-on g c = on_told (GoesOnWith c.args.m.now c.make_act.new.m) c.told_by.result c.in_ok-make_act.ensures.on
