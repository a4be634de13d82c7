use Rattle.step_units.proofs.Breaking.{break_made, break_stops}
use Rattle.step_units.proofs.laws.breaks_are_steps.Goals as goal

pub returns-clause-is : goal.returns-clause-is
returns-clause-is c = break_made

pub returns-clause-stops : goal.returns-clause-stops
returns-clause-stops c = break_stops
