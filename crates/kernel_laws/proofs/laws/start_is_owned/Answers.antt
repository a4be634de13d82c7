use Rattle.kernel_laws.proofs.Pieces.Starts.{start_found}
use Rattle.kernel_laws.proofs.laws.start_is_owned.Goals as goal

pub returns : goal.returns
returns c = start_found
