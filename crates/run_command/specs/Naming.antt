-- An opened image, as a machine has it.
use Rattle.machine_state.specs.Sourced.{ImageNamed}
use Rattle.run_opening.specs.declared.images.OpenedImage.{OpenedImage}

-- an opened image, as a machine has it
abbrev pub shown_as : OpenedImage → ImageNamed
shown_as image = record { name = image.name.now; file = image.file; facts = image.facts }
