use Rattle.flat_laws.proofs.touching.touched_are_few.Goals as goal
use Rattle.flat_laws.proofs.Few.{touched_few}

pub returns-clause-few : goal.returns-clause-few
returns-clause-few c = touched_few

pub returns-clause-each : goal.returns-clause-each
returns-clause-each c = λ A F pid w. touched_few A F pid (w pid)
