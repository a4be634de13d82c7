use Rattle.flat_laws.proofs.Stepping.{runs_alone}
use Rattle.flat_laws.proofs.alone.runs_as_alone.Goals as goal

pub returns : goal.returns
returns c = runs_alone
