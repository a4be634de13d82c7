use Rattle.run_model.proofs.Snapshots.{after_snapshot, start_is}
use Rattle.run_model.proofs.state_laws.snapshots_go_on.Goals as goal

pub returns-clause-start : goal.returns-clause-start
returns-clause-start c = start_is

pub returns-clause-unit : goal.returns-clause-unit
returns-clause-unit c = after_snapshot
