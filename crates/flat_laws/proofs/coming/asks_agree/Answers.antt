use Rattle.flat_laws.proofs.Asking.{change_same, step_same}
use Rattle.flat_laws.proofs.coming.asks_agree.Goals as goal

pub returns-clause-change : goal.returns-clause-change
returns-clause-change c = change_same

pub returns-clause-step : goal.returns-clause-step
returns-clause-step c = step_same
