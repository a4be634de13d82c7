use Rattle.std.proofs.Common.{refl}
use Rattle.page_opt.specs.Plans.{has}
use Rattle.policy_faults.specs.Policies.{faults_over, fifo_after}
use Rattle.fault_laws.proofs.replacement.more_frames_may_cost_faults.Goals as goal

pub returns-clause-three : goal.returns-clause-three
unfolding has faults_over fifo_after
returns-clause-three c = refl

pub returns-clause-four : goal.returns-clause-four
unfolding has faults_over fifo_after
returns-clause-four c = refl
