use Rattle.proc_calls.proofs.Breaks.{break_flat}
use Rattle.proc_calls.proofs.laws.break_is_flat.Goals as goal

pub returns : goal.returns
returns c images k flat p x pid regs memory tables fits held own text = break_flat images k flat x tables fits own text pid regs held p memory
