use Rattle.fault_laws.proofs.Moments.{run_planned, run_enough}
use Rattle.fault_laws.proofs.runs.runs_fault_enough.Goals as goal

pub returns-clause-plan : goal.returns-clause-plan
returns-clause-plan c = run_planned

pub returns-clause-least : goal.returns-clause-least
returns-clause-least c = run_enough
