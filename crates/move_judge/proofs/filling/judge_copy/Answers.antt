use Rattle.std.proofs.Common.{sym, ◌∙◌}
use Rattle.move_judge.proofs.Cans.{can_copy}
use Rattle.move_judge.proofs.filling.judge_copy.Goals as goal

-- src/filling.rt:128:13
pub copy-requires-clause-can : goal.copy-requires-clause-can
copy-requires-clause-can c =
    can_copy c.args.m.now.kernel.place c.args.page (sym c.copy_reason.ensures ∙ c.in-None.is) c.due_parent-parent.result c.requires.ready.running.due c.due_parent-parent.ensures
