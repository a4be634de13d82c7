-- What a judged line comes to: it was made, or nothing was done.
use Rattle.std.specs.Prelude.{◌≡◌, List, ◌∷◌, Option, Some, None}
use Rattle.vm_facts.specs.SwapImages.{SwapImage}
use Rattle.vm_facts.specs.declared.page.Page.{Page}
use Rattle.vm_facts.specs.declared.entry.Entry.{Entry}
use Rattle.io_edge.specs.FileHolding.{NamedFile}
use Rattle.page_model.specs.Placement.{Due, CopyOf}
use Rattle.machine_state.specs.Machine.{Standing}
use Rattle.swapper.specs.Made.{ground, MakesUnit}
use Rattle.paged_model.specs.declared.reason.Reason.{Reason}

-- the unit of an entry that calls no device, and over which no page is locked
abbrev pub MakesPlain : Entry → Standing → Standing → Type 0
MakesPlain e old new =
    (holds : Option (List NamedFile)) (image : Option SwapImage) (locked : List Page) → MakesUnit (ground old holds locked) e old new image image

-- with no reason the entry was made; with one nothing was done
abbrev pub Judged : Entry → Standing → Standing → Option Reason → Type 0
Judged e old new None = MakesPlain e old new
Judged e old new (Some reason) = new ≡ old

-- the same of an entry that calls devices, over these files, from one swap image to another
abbrev pub JudgedThrough : Entry → Option (List NamedFile) → Option SwapImage → Option SwapImage → Standing → Standing → Option Reason → Type 0
JudgedThrough e holds i j old new None = (locked : List Page) → MakesUnit (ground old holds locked) e old new i j
JudgedThrough e holds i j old new (Some reason) = new ≡ old

-- the first page that is due is this one, to be copied from that one
pub record CopiesFrom (due : List Due) (child parent : Page) : Type 0 where
  pub others : List Due
  pub first : due ≡ CopyOf child parent ∷ others
