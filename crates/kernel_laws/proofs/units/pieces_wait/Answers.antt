use Rattle.kernel_laws.proofs.Kept.Waiting.{waits_coupled, waits_image, finds_wait, dones_wait}
use Rattle.kernel_laws.proofs.units.pieces_wait.Goals as goal

pub returns : goal.returns
returns c = record {
  coupled = waits_coupled;
  image = waits_image;
  found = finds_wait;
  waits = dones_wait;
}
