use Rattle.economy_laws.proofs.Lost.{unit_lost, unit_written}
use Rattle.economy_laws.proofs.pages.pages_leave_frames.Goals as goal

pub returns-clause-lost : goal.returns-clause-lost
returns-clause-lost c = unit_lost

pub returns-clause-written : goal.returns-clause-written
returns-clause-written c = unit_written
