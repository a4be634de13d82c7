use Rattle.std.proofs.Common.{◌≡◌, ◌++◌, drop}
use Rattle.flat_process.specs.Images.{images_of}
use Rattle.flat_process.proofs.program.load_all.Given as goal

abbrev pub invariant-loop-image : goal.invariant-loop-image
invariant-loop-image l = l.programs.items ++ images_of (drop l.image-index l.images) ≡ images_of l.images
