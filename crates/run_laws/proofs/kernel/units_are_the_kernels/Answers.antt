use Rattle.run_laws.proofs.KernelUnits.{unit_behind}
use Rattle.run_laws.proofs.kernel.units_are_the_kernels.Goals as goal

pub returns-clause-machine : goal.returns-clause-machine
returns-clause-machine c = λ A s k image read u at h. (unit_behind A s k image read u at h).0

pub returns-clause-image : goal.returns-clause-image
returns-clause-image c = λ A s k image read u at h. (unit_behind A s k image read u at h).1
