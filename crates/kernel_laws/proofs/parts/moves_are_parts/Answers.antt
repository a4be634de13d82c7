use Rattle.kernel_laws.proofs.PartMoves.{move_place, move_come}
use Rattle.kernel_laws.proofs.parts.moves_are_parts.Goals as goal

pub returns-clause-place : goal.returns-clause-place
returns-clause-place c = move_place

pub returns-clause-come : goal.returns-clause-come
returns-clause-come c = move_come
