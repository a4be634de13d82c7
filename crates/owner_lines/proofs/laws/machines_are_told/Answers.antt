use Rattle.owner_lines.proofs.Registers.{machine_told}
use Rattle.owner_lines.proofs.laws.machines_are_told.Goals as goal

pub returns : goal.returns
returns c = machine_told
