use Rattle.kernel_laws.proofs.Kept.Starts.{start_kept}
use Rattle.kernel_laws.proofs.Kept.Units.{unit_kept, units_kept}
use Rattle.kernel_laws.proofs.units.machine_kept.Goals as goal

pub returns-clause-unit : goal.returns-clause-unit
returns-clause-unit c = unit_kept

pub returns-clause-units : goal.returns-clause-units
returns-clause-units c = units_kept

pub returns-clause-start : goal.returns-clause-start
returns-clause-start c = start_kept
