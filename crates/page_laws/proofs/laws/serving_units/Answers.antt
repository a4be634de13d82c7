use Rattle.page_laws.proofs.Moves.Units.{now_unit, unit_is, entry_steps}
use Rattle.page_laws.proofs.laws.serving_units.Goals as goal

pub returns-clause-now : goal.returns-clause-now
returns-clause-now c = now_unit

pub returns-clause-unit : goal.returns-clause-unit
returns-clause-unit c = unit_is

pub returns-clause-step : goal.returns-clause-step
returns-clause-step c = entry_steps
