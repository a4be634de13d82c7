use Rattle.run_model.proofs.Acting.{next_flat, next_says, next_all_flat, next_run}
use Rattle.run_model.proofs.state_laws.next_is_flat.Goals as goal

pub returns-clause-unit : goal.returns-clause-unit
returns-clause-unit c = next_flat

pub returns-clause-says : goal.returns-clause-says
returns-clause-says c = next_says

pub returns-clause-units : goal.returns-clause-units
returns-clause-units c = next_all_flat

pub returns-clause-run : goal.returns-clause-run
returns-clause-run c = next_run
