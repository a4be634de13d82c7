use Rattle.io_edge.specs.WithFiles.{stores}
use Rattle.std.proofs.Common.{sym, ◌∙◌}
use Rattle.repage_check.proofs.Told.{others, some_judged, some_counted, step_call}
use Rattle.repage_check.proofs.judging.judge_unit.Goals as goal

pub judge_step-requires-clause-counted : goal.judge_step-requires-clause-counted
judge_step-requires-clause-counted g c =
    some_counted c.args.past c.args.m.now (g.F.Files.holds c.args.files.now) (stores g.F.Files g.D.SwapDev c.args.files.now c.args.swap.now) c.requires.at

pub judge_step-requires-clause-at : goal.judge_step-requires-clause-at
judge_step-requires-clause-at g c =
    some_judged c.args.past c.args.m.now (g.F.Files.holds c.args.files.now) (stores g.F.Files g.D.SwapDev c.args.files.now c.args.swap.now) c.requires.at

pub returns-in-Some-clause-told : goal.returns-in-Some-clause-told
returns-in-Some-clause-told g c =
    step_call c.args.past c.args.m.now c.judge_step.new.m (g.F.Files.holds c.args.files.now) (stores g.F.Files g.D.SwapDev c.args.files.now c.args.swap.now)
    (stores g.F.Files g.D.SwapDev c.judge_step.new.files c.judge_step.new.swap)
    c.judge_step.result c.args.u.now c.in-Some.pid c.requires.unit (sym c.process_of_entry.ensures ∙ c.in-Some.is) c.judge_step.ensures.told c.judge_step.ensures.on

pub judge_other-requires-clause-others : goal.judge_other-requires-clause-others
judge_other-requires-clause-others g c = others c.args.u.now c.requires.unmoved (sym c.process_of_entry.ensures ∙ c.in-None.is)
