use Rattle.paged_model.proofs.Fronts.{front_run, front_on, front_units}
use Rattle.paged_model.proofs.laws.runs_have_fronts.Goals as goal

pub returns-clause-front : goal.returns-clause-front
returns-clause-front c = front_run

pub returns-clause-on : goal.returns-clause-on
returns-clause-on c = front_on

pub returns-clause-units : goal.returns-clause-units
returns-clause-units c = front_units
