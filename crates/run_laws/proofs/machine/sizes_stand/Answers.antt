use Rattle.run_laws.proofs.Sizing.{start_sized, step_sized, run_is_sized, reached_sized}
use Rattle.run_laws.proofs.machine.sizes_stand.Goals as goal

pub returns : goal.returns
returns c = record {
  start = start_sized;
  step = step_sized;
  run = run_is_sized;
  reached = reached_sized;
}
