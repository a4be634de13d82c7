use Rattle.run_laws.proofs.Wholes.{start_run, unit_run, units_run, reached_run}
use Rattle.run_laws.proofs.laws.runs_stand.Goals as goal

pub returns : goal.returns
returns c = record {
  start = start_run;
  unit = unit_run;
  units = units_run;
  reached = reached_run;
}
