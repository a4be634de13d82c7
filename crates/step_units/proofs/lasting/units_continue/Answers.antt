use Rattle.step_units.proofs.Running.{units_run, units_continue}
use Rattle.step_units.proofs.lasting.units_continue.Goals as goal

pub returns-clause-runs_on : goal.returns-clause-runs_on
returns-clause-runs_on c = units_run

pub returns-clause-goes_on : goal.returns-clause-goes_on
returns-clause-goes_on c = units_continue
