use Rattle.flat_laws.proofs.Others.{others_hold}
use Rattle.flat_laws.proofs.coming.others_keep_their_spaces.Goals as goal

pub returns : goal.returns
returns c = others_hold
