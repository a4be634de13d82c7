-- How a frame is forced: the units that are made, until one is free.
use Rattle.std.specs.Prelude.{◌≡◌, ℕ, ◌<◌, ◌≤◌, List, [], length, Option, Some}
use Rattle.vm_facts.specs.SwapImages.{SwapImage}
use Rattle.vm_facts.specs.declared.page.Page.{Page}
use Rattle.vm_facts.specs.declared.entry.Entry.{Entry}
use Rattle.io_edge.specs.FileHolding.{NamedFile}
use Rattle.page_model.specs.Placement.{Placement}
use Rattle.page_model.specs.Serve.{Forces, force_entry}
use Rattle.page_laws.specs.Spans.{moves_of}
use Rattle.kernel_model.specs.Kernel.{Kernel}
use Rattle.paging_units.specs.Machine.{Standing}
use Rattle.paging_units.specs.Made.{ground, Makes}
use Rattle.paging_units.specs.Stops.{Work}

-- The call makes the units that force a frame, each where none is free, and a frame is free at the end. The swap images,
-- where they are told, are those before and after it, and the files those that it reads from.
pub record Forced (locked : List Page) (old new : Standing) (holds : Option (List NamedFile)) (i j : Option SwapImage) : Type 0 where
  pub units : List Entry
  pub forces : Forces units old.kernel.place locked new.kernel.place
  pub makes : Makes (ground old holds locked) units old new i j
  pub free : 0 < length new.kernel.place.free
  -- the hands go round at most once
  pub moves : moves_of units ≤ length old.kernel.place.holds

-- these units force a frame, and none is free yet in the kernel to which they lead
pub record StillForcing (locked : List Page) (p : Placement) (us : List Entry) (k : Kernel) : Type 0 where
  pub forces : Forces us p locked k.place
  pub none : k.place.free ≡ []

-- the work of forcing a frame by hands that pass over these pages
abbrev pub forcing_frame : List Page → Work
forcing_frame locked = record { locked = locked; Unfinished = λ k. StillForcing locked k.place; next = λ p. Some (force_entry p.transfers) }
