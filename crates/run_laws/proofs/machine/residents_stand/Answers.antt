use Rattle.run_laws.proofs.Residents.{reside, put_falls, put_ends}
use Rattle.run_laws.proofs.machine.residents_stand.Goals as goal

pub returns-clause-each : goal.returns-clause-each
returns-clause-each c = reside

pub returns-clause-falls : goal.returns-clause-falls
returns-clause-falls c = put_falls

pub returns-clause-whole : goal.returns-clause-whole
returns-clause-whole c = put_ends
