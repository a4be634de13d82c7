use Rattle.paged_laws.proofs.HandLines.{hands_good, hands_place}
use Rattle.paged_laws.proofs.trace_laws.moves_are_told_by_parts.Goals as goal

pub returns-clause-good : goal.returns-clause-good
returns-clause-good c = hands_good

pub returns-clause-place : goal.returns-clause-place
returns-clause-place c = hands_place
