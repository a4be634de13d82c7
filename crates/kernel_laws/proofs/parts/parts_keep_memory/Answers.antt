use Rattle.kernel_laws.proofs.PartMachines.{part_coupled}
use Rattle.kernel_laws.proofs.parts.parts_keep_memory.Goals as goal

pub returns : goal.returns
returns c = λ size k images image flat x so can. part_coupled size k x so can images image flat
