use Rattle.run_laws.proofs.SwapImages.{writes_flat, image_same, images_same, swapped_same, on_swap}
use Rattle.run_laws.proofs.Fitting.{run_swapped}
use Rattle.run_laws.proofs.machine.images_agree.Goals as goal

pub returns : goal.returns
returns c = record {
  writes = writes_flat;
  unit = image_same;
  units = images_same;
  journal = swapped_same;
  there = on_swap;
  run = run_swapped;
}
