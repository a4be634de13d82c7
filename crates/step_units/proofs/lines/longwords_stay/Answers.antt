use Rattle.step_units.proofs.Longwords.{longwords_stay}
use Rattle.step_units.proofs.lines.longwords_stay.Goals as goal

pub returns : goal.returns
returns c = longwords_stay
