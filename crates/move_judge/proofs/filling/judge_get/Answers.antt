use Rattle.std.proofs.Common.{sym, ◌∙◌}
use Rattle.move_judge.proofs.Cans.{can_get}
use Rattle.move_judge.proofs.filling.judge_get.Goals as goal

pub begin_get-requires-clause-can : goal.begin_get-requires-clause-can
begin_get-requires-clause-can c =
    can_get c.args.m.now.kernel.place c.args.page c.args.lo c.args.n c.requires.ready.running.due
    (c.get_reason.ensures.few c.in-None.is) (sym c.get_reason.ensures.reason ∙ c.in-None.is)
