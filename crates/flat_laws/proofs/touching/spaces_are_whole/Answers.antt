use Rattle.flat_laws.proofs.touching.spaces_are_whole.Goals as goal
use Rattle.flat_laws.proofs.Sized.{start_sized, step_sized, run_sized, sized_whole, image_whole}

pub returns : goal.returns
returns c = record {
  start = start_sized;
  step = step_sized;
  run = run_sized;
  whole = sized_whole;
  image = image_whole;
}
