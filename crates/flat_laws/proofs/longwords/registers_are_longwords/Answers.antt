use Rattle.flat_laws.proofs.Decoding.{leaves_longwords}
use Rattle.flat_laws.proofs.Images.{file_fits}
use Rattle.flat_laws.proofs.Registers.{all_images, start_regs_are}
use Rattle.flat_laws.proofs.Replying.{step_regs}
use Rattle.flat_laws.proofs.Runs.{run_fits}
use Rattle.flat_laws.proofs.longwords.registers_are_longwords.Goals as goal

pub returns : goal.returns
returns c = record {
  instruction = leaves_longwords;
  image = file_fits;
  images = all_images;
  start = start_regs_are;
  step = step_regs;
  run = run_fits;
}
