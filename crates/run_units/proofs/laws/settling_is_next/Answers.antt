use Rattle.run_units.proofs.Settling.{settles, settled_next}
use Rattle.run_units.proofs.laws.settling_is_next.Goals as goal

pub returns-clause-units : goal.returns-clause-units
returns-clause-units c A g s k l image j pid now sid n = settles n A g s k l image j pid now sid

pub returns-clause-next : goal.returns-clause-next
returns-clause-next c = settled_next
