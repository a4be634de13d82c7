use Rattle.owner_lines.proofs.Telling.{frames_told_so}
use Rattle.owner_lines.proofs.laws.frames_are_told.Goals as goal

pub returns : goal.returns
returns c = frames_told_so
