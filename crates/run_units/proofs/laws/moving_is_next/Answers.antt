use Rattle.run_units.proofs.Moving.{moving, move_next, moves_end}
use Rattle.run_units.proofs.laws.moving_is_next.Goals as goal

pub returns-clause-units : goal.returns-clause-units
returns-clause-units c A g s k l image j n us = moving us A g s k l image j n

pub returns-clause-next : goal.returns-clause-next
returns-clause-next c = move_next

pub returns-clause-ends : goal.returns-clause-ends
returns-clause-ends c = moves_end
