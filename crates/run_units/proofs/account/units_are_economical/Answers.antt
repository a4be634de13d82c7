use Rattle.run_units.proofs.Stretches.{units_economical}
use Rattle.run_units.proofs.account.units_are_economical.Goals as goal

pub returns : goal.returns
returns c = λ A s t us images r l f. units_economical A s t us images r f l
