use Rattle.run_laws.proofs.Wholes.{unit_allowed, unit_ready}
use Rattle.run_laws.proofs.Turning.{comes_in_turn}
use Rattle.run_laws.proofs.laws.units_allowed.Goals as goal

pub returns-clause-allowed : goal.returns-clause-allowed
returns-clause-allowed c = unit_allowed

pub returns-clause-ready : goal.returns-clause-ready
returns-clause-ready c = unit_ready

pub returns-clause-turn : goal.returns-clause-turn
returns-clause-turn c = comes_in_turn
