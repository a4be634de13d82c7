use Rattle.flat_laws.proofs.Numbers.{step_numbered, run_numbered}
use Rattle.kernel_laws.proofs.Stands.Starts.{start_numbered}
use Rattle.flat_laws.proofs.coming.numbers_are_kept.Goals as goal

pub returns-clause-start : goal.returns-clause-start
returns-clause-start c = start_numbered

pub returns-clause-step : goal.returns-clause-step
returns-clause-step c = step_numbered

pub returns-clause-run : goal.returns-clause-run
returns-clause-run c = run_numbered
