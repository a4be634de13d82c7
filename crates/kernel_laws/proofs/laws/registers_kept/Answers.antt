use Rattle.kernel_laws.proofs.Registers.{regs_back}
use Rattle.kernel_laws.proofs.laws.registers_kept.Goals as goal

pub returns : goal.returns
returns c = regs_back
