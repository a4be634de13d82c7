use Rattle.io_edge.specs.WithFiles.{stores}
use Rattle.std.proofs.Common.{◌≡◌, false, true, sym, ap, ◌∙◌}
use Rattle.step_judge.specs.StepUnitsRests.{is_done}
use Rattle.repage_check.proofs.Told.{none_begun, is_end, begun_call, end_call}
use Rattle.repage_check.proofs.judging.judge_other.Goals as goal

pub returns-then-is_done-clause-told : goal.returns-then-is_done-clause-told
returns-then-is_done-clause-told g c =
    end_call c.args.past c.args.m.now c.judge_end.new.m (g.F.Files.holds c.args.files.now) (stores g.F.Files g.D.SwapDev c.args.files.now c.args.swap.now)
    (stores g.F.Files g.D.SwapDev c.judge_end.new.files c.judge_end.new.swap)
    c.judge_end.result c.args.u.now (is_end c.args.u.now (sym c.is_done.ensures ∙ c.if-is_done.true)) c.judge_end.ensures.judged c.judge_end.ensures.made
    c.judge_end.ensures.on

pub returns-in-Some-clause-told : goal.returns-in-Some-clause-told
returns-in-Some-clause-told g c =
    begun_call c.args.past c.args.m.now c.args.m.now (g.F.Files.holds c.args.files.now) (stores g.F.Files g.D.SwapDev c.args.files.now c.args.swap.now)
    (stores g.F.Files g.D.SwapDev c.args.files.now c.args.swap.now)
    c.in-Some.reason c.args.u.now (sym c.begun_reason.ensures ∙ c.in-Some.is) c.requires.others
    (λ d. let z : false ≡ true = sym c.if-is_done.false ∙ c.is_done.ensures ∙ ap is_done d in cc)

pub judge_free-requires-clause-none : goal.judge_free-requires-clause-none
judge_free-requires-clause-none g c = none_begun c.args.past.begun (sym c.begun_reason.ensures ∙ c.in-None.is)
