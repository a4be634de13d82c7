use Rattle.paged_laws.proofs.Owned.{run_placed, run_owned}
use Rattle.paged_laws.proofs.laws.paged_runs_are_owned.Goals as goal

pub returns-clause-stands : goal.returns-clause-stands
returns-clause-stands c = run_placed

pub returns-clause-owner : goal.returns-clause-owner
returns-clause-owner c = run_owned
