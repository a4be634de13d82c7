use Rattle.machine_state.proofs.WritesGoOn.{writes_go}
use Rattle.machine_state.proofs.laws.writes_go_on.Goals as goal

pub returns : goal.returns
returns c = writes_go
