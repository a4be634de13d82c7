use Rattle.kernel_laws.proofs.Machine.Writes.{writes_one}
use Rattle.kernel_laws.proofs.laws.writes_follow.Goals as goal

pub returns : goal.returns
returns c = writes_one
