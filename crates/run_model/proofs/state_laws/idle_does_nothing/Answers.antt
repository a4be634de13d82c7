use Rattle.flat_model.proofs.Idle.{idle_touches, idle_asks}
use Rattle.run_model.proofs.Wanting.{idle_acts, idle_wants}
use Rattle.run_model.proofs.state_laws.idle_does_nothing.Goals as goal

pub returns-clause-touched : goal.returns-clause-touched
returns-clause-touched c = idle_touches

pub returns-clause-asks : goal.returns-clause-asks
returns-clause-asks c = idle_asks

pub returns-clause-acts : goal.returns-clause-acts
returns-clause-acts c = idle_acts

pub returns-clause-wants : goal.returns-clause-wants
returns-clause-wants c = idle_wants
