use Rattle.std.proofs.Common.{sym, ◌∙◌}
use Rattle.move_judge.proofs.Puts.{seat_true}
use Rattle.move_judge.proofs.putting.put_with.Goals as goal

pub is_dirty_seat-requires-clause-seated : goal.is_dirty_seat-requires-clause-seated
is_dirty_seat-requires-clause-seated c = seat_true c.args.m.now.kernel.place c.args.other (sym c.unseated.ensures ∙ c.in-None.is)
