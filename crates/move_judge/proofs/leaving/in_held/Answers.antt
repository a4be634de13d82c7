use Rattle.std.proofs.Common.{sym, ◌∙◌}
use Rattle.move_judge.proofs.Residents.{in_can}
use Rattle.move_judge.proofs.leaving.in_held.Goals as goal

pub returns-clause-can : goal.returns-clause-can
returns-clause-can c = λ e.
    in_can c.args._m.now.kernel c.args.pid c.args._sid c.args.process.now c.requires.holds c.requires.clear (sym c.unless.ensures ∙ e)
