-- What a line over which pages are locked comes to: it was made, or nothing was done.
use Rattle.std.specs.Prelude.{◌≡◌, List, Option, Some, None}
use Rattle.vm_facts.specs.SwapImages.{SwapImage}
use Rattle.vm_facts.specs.declared.page.Page.{Page}
use Rattle.vm_facts.specs.declared.entry.Entry.{Entry}
use Rattle.io_edge.specs.FileHolding.{NamedFile}
use Rattle.machine_state.specs.Machine.{Standing}
use Rattle.swapper.specs.Made.{ground, MakesUnit}
use Rattle.paged_model.specs.declared.reason.Reason.{Reason}

-- with no reason the entry was made, with these pages locked; with one nothing was done
abbrev pub JudgedOver : List Page → Entry → Standing → Standing → Option Reason → Type 0
JudgedOver locked e old new None = (holds : Option (List NamedFile)) (image : Option SwapImage) → MakesUnit (ground old holds locked) e old new image image
JudgedOver locked e old new (Some reason) = new ≡ old
