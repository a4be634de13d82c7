use Rattle.paging_units.proofs.Units.{made_append, made_journal, made_forces}
use Rattle.paging_units.proofs.laws.units_follow.Goals as goal

pub returns-clause-parts : goal.returns-clause-parts
returns-clause-parts c = made_append

pub returns-clause-journal : goal.returns-clause-journal
returns-clause-journal c = made_journal

pub returns-clause-forces : goal.returns-clause-forces
returns-clause-forces c = made_forces
