use Rattle.run_stats.proofs.Agreements.{agrees}
use Rattle.run_stats.proofs.laws.counts_agree.Goals as goal

pub returns : goal.returns
returns c = agrees
