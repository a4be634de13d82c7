use Rattle.run_units.proofs.Accounts.{units_accounted}
use Rattle.run_units.proofs.account.units_are_accounted.Goals as goal

pub returns : goal.returns
returns c = units_accounted
