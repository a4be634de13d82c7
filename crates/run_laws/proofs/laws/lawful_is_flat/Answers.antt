use Rattle.run_laws.proofs.Wholes.{reached_lawful}
use Rattle.run_laws.proofs.laws.lawful_is_flat.Goals as goal

pub returns : goal.returns
returns c = reached_lawful
