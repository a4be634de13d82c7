use Rattle.kernel_laws.proofs.Machine.Swaps.{left_coupled, out_record}
use Rattle.kernel_laws.proofs.laws.registers_leave.Goals as goal

pub returns-clause-out : goal.returns-clause-out
returns-clause-out c = out_record

pub returns-clause-free : goal.returns-clause-free
returns-clause-free c = left_coupled
