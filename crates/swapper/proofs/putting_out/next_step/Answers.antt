use Rattle.std.proofs.Common.{sym, ◌∙◌}
use Rattle.swapper.proofs.PutUnits.{first_own, first_is_seated}
use Rattle.swapper.proofs.putting_out.next_step.Goals as goal

pub step_for-requires-clause-own : goal.step_for-requires-clause-own
step_for-requires-clause-own c = first_own c.args.m.now.kernel.place c.args.sid c.in_ok-page.page (sym c.seated_page.ensures ∙ c.in_ok-page.was)

pub step_for-requires-clause-seated : goal.step_for-requires-clause-seated
step_for-requires-clause-seated c = first_is_seated c.args.m.now.kernel.place c.args.sid c.in_ok-page.page (sym c.seated_page.ensures ∙ c.in_ok-page.was)
