use Rattle.std.proofs.Common.{sym, ◌∙◌}
use Rattle.repage_check.proofs.Passing.{none_first}
use Rattle.repage_check.proofs.locking.locked_pages.Goals as goal

pub locked_by_mark-requires-clause-clear : goal.locked_by_mark-requires-clause-clear
locked_by_mark-requires-clause-clear c = none_first c.args.m.now.kernel.place.due (sym c.in-None.is ∙ c.due_at.ensures)
