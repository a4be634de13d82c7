use Rattle.run_model.specs.State.{start}
use Rattle.run_laws.proofs.Wholes.{start_run}
use Rattle.paged_laws.proofs.Awaiting.{unit_paged}
use Rattle.paged_laws.proofs.Standings.{unit_stands}
use Rattle.paged_laws.proofs.Steady.{run_steady}
use Rattle.paged_laws.proofs.laws.paged_machines_stand.Goals as goal

pub returns-clause-start : goal.returns-clause-start
returns-clause-start c = λ A hs can. record { steady = run_steady A (start A hs) (start_run A hs can); awaits = tt }

pub returns-clause-unit : goal.returns-clause-unit
returns-clause-unit c = unit_paged

pub returns-clause-machine : goal.returns-clause-machine
returns-clause-machine c = unit_stands
