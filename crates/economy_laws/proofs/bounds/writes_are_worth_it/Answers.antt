use Rattle.economy_laws.proofs.Writes.{writes_worth}
use Rattle.economy_laws.proofs.bounds.writes_are_worth_it.Goals as goal

pub returns : goal.returns
returns c = writes_worth
