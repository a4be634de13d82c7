use Rattle.step_units.proofs.Lending.{vfork_made, vfork_stops}
use Rattle.step_units.proofs.Forking.{fork_made, fork_stops}
use Rattle.step_units.proofs.laws.forks_are_steps.Goals as goal

pub returns-clause-vfork : goal.returns-clause-vfork
returns-clause-vfork c = vfork_made

pub returns-clause-vfork_stops : goal.returns-clause-vfork_stops
returns-clause-vfork_stops c = vfork_stops

pub returns-clause-fork : goal.returns-clause-fork
returns-clause-fork c = fork_made

pub returns-clause-fork_stops : goal.returns-clause-fork_stops
returns-clause-fork_stops c = fork_stops
