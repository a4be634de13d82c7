use Rattle.run_units.proofs.Swapping.{putting, put_next, out_made, in_made}
use Rattle.run_units.proofs.laws.swapping_is_next.Goals as goal

pub returns-clause-units : goal.returns-clause-units
returns-clause-units c A g s k l image j pid sid at us = putting us A g s k l image j pid sid at

pub returns-clause-next : goal.returns-clause-next
returns-clause-next c = put_next

pub returns-clause-out : goal.returns-clause-out
returns-clause-out c = out_made

pub returns-clause-comes : goal.returns-clause-comes
returns-clause-comes c = in_made
