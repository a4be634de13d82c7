use Rattle.page_laws.proofs.Swapper.Residences.{moved_own, moved_others}
use Rattle.page_laws.proofs.laws.residence_moves.Goals as goal

pub returns-clause-own : goal.returns-clause-own
returns-clause-own c = moved_own

pub returns-clause-others : goal.returns-clause-others
returns-clause-others c = moved_others
