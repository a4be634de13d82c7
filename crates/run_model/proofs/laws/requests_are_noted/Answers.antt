use Rattle.run_model.proofs.Noting.{all_noted}
use Rattle.run_model.proofs.laws.requests_are_noted.Goals as goal

pub returns : goal.returns
returns c = all_noted
