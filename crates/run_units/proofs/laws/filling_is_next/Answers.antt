use Rattle.run_units.proofs.Filling.{forcing, forced_next, fill_next, bringing, brought_next}
use Rattle.run_units.proofs.laws.filling_is_next.Goals as goal

pub returns-clause-forces : goal.returns-clause-forces
returns-clause-forces c = forcing

pub returns-clause-forced : goal.returns-clause-forced
returns-clause-forced c = forced_next

pub returns-clause-fills : goal.returns-clause-fills
returns-clause-fills c = fill_next

pub returns-clause-brings : goal.returns-clause-brings
returns-clause-brings c A g s k l image j child parent ds us = bringing us A g s k l image j child parent ds

pub returns-clause-brought : goal.returns-clause-brought
returns-clause-brought c = brought_next
