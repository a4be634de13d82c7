-- What is due is filled: a new stack page with its bytes, a page of a child by a copy.
use Rattle.std.specs.Prelude.{◌≡◌, ℕ, List, [], ◌∷◌, Option, Some, None}
use Rattle.vm_facts.specs.SwapImages.{SwapImage}
use Rattle.vm_facts.specs.declared.page.Page.{Page}
use Rattle.vm_facts.specs.declared.entry.Entry.TheVariants as entries
use Rattle.vm_facts.specs.declared.stop.Stop.{Stop}
use Rattle.io_edge.specs.FileHolding.{NamedFile}
use Rattle.page_model.specs.Placement.{Placement, Due, Start, CopyOf}
use Rattle.machine_state.specs.Machine.{Standing}
use Rattle.proc_run.specs.Copying.{CopiesPage, StopsPage, OnceCopied}
use Rattle.proc_run.specs.Filling.{FillsStart, StopsFilling}

-- what is due of a page, by its parent's page, where it is to be copied from one
abbrev pub due_of : Page → Option Page → Due
due_of page None = Start page
due_of page (Some parent) = CopyOf page parent

-- this is due first
pub record IsDueFirst (p : Placement) (d : Due) : Type 0 where
  pub others : List Due
  pub first : p.due ≡ d ∷ others

-- a new stack page is filled; or a child's page is copied, and the machine goes on
abbrev pub FillsDue : Due → Standing → Standing → Option (List NamedFile) → Option SwapImage → Option SwapImage → Type 0
FillsDue (Start q) old new holds before after = FillsStart q old new holds before after
FillsDue (CopyOf q parent) old new holds before after = CopiesPage q parent old new holds before after × OnceCopied q old new

-- or the run stops there
abbrev pub StopsDue : Due → Standing → Standing → Option (List NamedFile) → Option SwapImage → Option SwapImage → Stop → Type 0
StopsDue (Start q) old new holds before after stop = StopsFilling (entries.Zero q) [] old new holds before after stop
StopsDue (CopyOf q parent) old new holds before after stop = StopsPage q parent old new holds before after stop
