use Rattle.run_stats.proofs.Agreements.{ends_at}
use Rattle.run_stats.proofs.laws.ends_are_looked_at.Goals as goal

pub returns : goal.returns
returns c = ends_at
