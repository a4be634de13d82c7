-- What the judged line of a part comes to: it was made, or nothing was done.
use Rattle.std.specs.Prelude.{◌≡◌, Option, Some, None}
use Rattle.kernel_model.specs.declared.part.HandPart.{HandPart}
use Rattle.kernel_model.specs.HandParts.{part_step}
use Rattle.machine_state.specs.Machine.{Standing}
use Rattle.paged_model.specs.declared.reason.Reason.{Reason}

-- with no reason the part was made, and the journal has no room that was made for an instruction; with one nothing was done
abbrev pub JudgedPart : HandPart → Standing → Standing → Option Reason → Type 0
JudgedPart x old new None = new ≡ record old { kernel = part_step old.kernel x; room = None }
JudgedPart x old new (Some reason) = new ≡ old
