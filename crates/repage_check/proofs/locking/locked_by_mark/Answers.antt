use Rattle.std.proofs.Common.{sym, ◌∙◌, subst}
use Rattle.repage_check.specs.Locking.{AreLocked}
use Rattle.repage_check.proofs.Passing.{over_locked}
use Rattle.repage_check.proofs.locking.locked_by_mark.Goals as goal

pub returns-in-None-clause-locked : goal.returns-in-None-clause-locked
returns-in-None-clause-locked c =
    subst (AreLocked c.args.past c.args.m.now) (sym c.none.ensures)
    (over_locked c.args.past c.args.m.now c.requires.clear (sym c.turn_of.ensures ∙ c.in-None.is))
