use Rattle.paged_laws.proofs.PolicyRuns.{policy_paged}
use Rattle.paged_laws.proofs.laws.policy_runs_are_paged.Goals as goal

pub returns : goal.returns
returns c = policy_paged
