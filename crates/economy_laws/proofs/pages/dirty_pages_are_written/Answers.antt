use Rattle.economy_laws.proofs.Cleaned.{unit_dirty, units_dirty}
use Rattle.economy_laws.proofs.pages.dirty_pages_are_written.Goals as goal

pub returns-clause-unit : goal.returns-clause-unit
returns-clause-unit c = unit_dirty

pub returns-clause-units : goal.returns-clause-units
returns-clause-units c = units_dirty
