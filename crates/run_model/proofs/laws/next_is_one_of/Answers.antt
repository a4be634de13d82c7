use Rattle.run_model.proofs.NextUnits.{kind_of}
use Rattle.run_model.proofs.laws.next_is_one_of.Goals as goal

pub returns : goal.returns
returns c = kind_of
