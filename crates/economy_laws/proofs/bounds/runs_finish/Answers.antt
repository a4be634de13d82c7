use Rattle.economy_laws.proofs.Finishing.Wholes.{run_finishes, reached_finishes, run_bounded, finished_once}
use Rattle.economy_laws.proofs.bounds.runs_finish.Goals as goal

pub returns : goal.returns
returns c = record {
  finished = run_finishes;
  reached = reached_finishes;
  bounded = run_bounded;
  once = finished_once;
}
