use Rattle.run_model.proofs.After.{state_append, state_appended, placed_is}
use Rattle.run_model.proofs.state_laws.state_goes_on.Goals as goal

pub returns-clause-unit : goal.returns-clause-unit
returns-clause-unit c = state_append

pub returns-clause-units : goal.returns-clause-units
returns-clause-units c = state_appended

pub returns-clause-placed : goal.returns-clause-placed
returns-clause-placed c = placed_is
