use Rattle.flat_laws.proofs.touching.runs_touch_few.Goals as goal
use Rattle.flat_laws.proofs.FewInRuns.{run_whole, run_few}
use Rattle.flat_laws.proofs.Few.{touched_few}
use Rattle.flat_laws.proofs.Sized.{run_sized, sized_whole}

pub returns-clause-whole : goal.returns-clause-whole
returns-clause-whole c = run_whole

pub returns-clause-run : goal.returns-clause-run
returns-clause-run c = run_few

pub returns-clause-few : goal.returns-clause-few
returns-clause-few c = λ A journal point pid w h. touched_few A point.flat pid (sized_whole point.flat (run_sized A journal point w h) pid)
