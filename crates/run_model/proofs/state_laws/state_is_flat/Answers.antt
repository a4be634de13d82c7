use Rattle.run_model.proofs.After.{after_holdings}
use Rattle.run_model.proofs.FlatRuns.{after_point, run_flat, run_point, run_held, run_append}
use Rattle.run_model.proofs.state_laws.state_is_flat.Goals as goal

pub returns-clause-point : goal.returns-clause-point
returns-clause-point c = after_point

pub returns-clause-holdings : goal.returns-clause-holdings
returns-clause-holdings c = after_holdings

pub returns-clause-flat : goal.returns-clause-flat
returns-clause-flat c = run_flat

pub returns-clause-run : goal.returns-clause-run
returns-clause-run c = run_point

pub returns-clause-held : goal.returns-clause-held
returns-clause-held c = run_held

pub returns-clause-more : goal.returns-clause-more
returns-clause-more c = run_append
