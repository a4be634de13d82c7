-- The images so far have the names, files and facts of those so far.
use Rattle.std.proofs.Common.{◌≡◌, map, take}
use Rattle.machine_state.specs.Machine.{image_shown}
use Rattle.run_command.specs.Naming.{shown_as}
use Rattle.run_command.proofs.naming.name_images.Given as goal

abbrev pub invariant-loop-image : goal.invariant-loop-image
invariant-loop-image l = record {
  shown : map image_shown l.named.items ≡ map shown_as (take l.image-index l.images);
  facts : map (λ image. image.facts) l.named.items ≡ map (λ image. image.facts) (take l.image-index l.images);
}
