use Rattle.io_edge.specs.WithFiles.{stores}
use Rattle.std.proofs.Common.{sym, ◌∙◌}
use Rattle.step_judge.proofs.Readying.{tables}
use Rattle.step_judge.proofs.Stepped.{first_told_of, some_soon, step_told}
use Rattle.step_judge.proofs.stepping.judge_step.Goals as goal

pub returns-in-Some-clause-told : goal.returns-in-Some-clause-told
returns-in-Some-clause-told g c =
    let m = c.args.m.now in
    let holds = g.F.Files.holds c.args.files.now in
    let i = stores g.F.Files g.D.SwapDev c.args.files.now c.args.swap.now in
    first_told_of m c.args.counted c.args.begun holds i c.args.pid c.args.e.now m.kernel i c.in-Some.reason c.requires.unit
    (λ A s image at. sym c.in-Some.is ∙ c.not_ready.ensures A s (tables m c.args.counted c.args.begun holds i A s image at c.args.pid))

pub step_ready-requires-clause-soon : goal.step_ready-requires-clause-soon
step_ready-requires-clause-soon g c =
    let m = c.args.m.now in
    let holds = g.F.Files.holds c.args.files.now in
    let i = stores g.F.Files g.D.SwapDev c.args.files.now c.args.swap.now in
    some_soon m c.args.counted c.args.begun holds i c.args.pid
    (λ A s image at. sym c.in-None.is ∙ c.not_ready.ensures A s (tables m c.args.counted c.args.begun holds i A s image at c.args.pid)) c.requires.at

pub returns-in-None-clause-told : goal.returns-in-None-clause-told
returns-in-None-clause-told g c =
    let m = c.args.m.now in
    let holds = g.F.Files.holds c.args.files.now in
    let i = stores g.F.Files g.D.SwapDev c.args.files.now c.args.swap.now in
    step_told m c.args.counted c.args.begun holds i c.args.pid c.args.e.now c.step_ready.new.m.kernel (stores g.F.Files g.D.SwapDev c.step_ready.new.files c.step_ready.new.swap) c.step_ready.result
    c.requires.unit (λ A s image at. sym c.in-None.is ∙ c.not_ready.ensures A s (tables m c.args.counted c.args.begun holds i A s image at c.args.pid))
    c.step_ready.ensures.told
