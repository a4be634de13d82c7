use Rattle.vm_run.proofs.Completing.{runs_complete}
use Rattle.vm_run.proofs.laws.sound_runs_complete.Goals as goal

pub returns : goal.returns
returns c = runs_complete
