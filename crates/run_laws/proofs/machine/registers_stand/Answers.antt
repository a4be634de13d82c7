use Rattle.run_laws.proofs.Fitting.{reached_fits, given_out}
use Rattle.run_laws.proofs.machine.registers_stand.Goals as goal

pub returns-clause-reached : goal.returns-clause-reached
returns-clause-reached c = reached_fits

pub returns-clause-given : goal.returns-clause-given
returns-clause-given c = given_out
