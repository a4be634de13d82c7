use Rattle.run_units.proofs.Serving.{served, served_next}
use Rattle.run_units.proofs.laws.serving_is_next.Goals as goal

pub returns-clause-units : goal.returns-clause-units
returns-clause-units c A g s k l image j pid now before q us = served us A g s k l image j pid now before q

pub returns-clause-next : goal.returns-clause-next
returns-clause-next c = served_next
