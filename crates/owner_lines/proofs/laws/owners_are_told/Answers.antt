use Rattle.owner_lines.proofs.Telling.{owners_told_so}
use Rattle.owner_lines.proofs.laws.owners_are_told.Goals as goal

pub returns : goal.returns
returns c = owners_told_so
