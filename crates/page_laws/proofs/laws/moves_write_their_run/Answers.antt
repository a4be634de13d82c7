use Rattle.page_laws.proofs.Moves.HandRuns.{hand_begun, hand_rests}
use Rattle.page_laws.proofs.laws.moves_write_their_run.Goals as goal

pub returns-clause-begins : goal.returns-clause-begins
returns-clause-begins c = hand_begun

pub returns-clause-rests : goal.returns-clause-rests
returns-clause-rests c = hand_rests
