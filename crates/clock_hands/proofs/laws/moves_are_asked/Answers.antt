use Rattle.clock_hands.proofs.Asked.{moves_next}
use Rattle.clock_hands.proofs.laws.moves_are_asked.Goals as goal

pub returns : goal.returns
returns c = moves_next
