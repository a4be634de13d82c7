use Rattle.run_laws.proofs.Finishing.{finished_ends, units_below, runs_some}
use Rattle.run_laws.proofs.laws.runs_end.Goals as goal

pub returns-clause-finished : goal.returns-clause-finished
returns-clause-finished c = finished_ends

pub returns-clause-below : goal.returns-clause-below
returns-clause-below c = units_below

pub returns-clause-goes : goal.returns-clause-goes
returns-clause-goes c = runs_some
