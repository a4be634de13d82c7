use Rattle.paged_laws.proofs.OtherInputs.{other_run}
use Rattle.paged_laws.proofs.laws.paged_runs_need_no_schedule.Goals as goal

pub returns : goal.returns
returns c = other_run
