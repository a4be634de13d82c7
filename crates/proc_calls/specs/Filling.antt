-- How the new stack page that is due is filled, and where that stops.
use Rattle.std.specs.Prelude.{◌≡◌, ◌⊎◌, ℕ, List, [], ◌∷◌, Option, None}
use Rattle.vm_facts.specs.SwapImages.{SwapImage}
use Rattle.vm_facts.specs.declared.page.Page.{Page}
use Rattle.vm_facts.specs.declared.entry.Entry.{Entry}
use Rattle.vm_facts.specs.declared.stop.Stop.{Stop}
use Rattle.io_edge.specs.FileHolding.{NamedFile}
use Rattle.page_model.specs.Placement.{Placement, Due, Start}
use Rattle.kernel_model.specs.Kernel.{zero_step}
use Rattle.machine_state.specs.Machine.{Standing}
use Rattle.machine_state.specs.Done.{KeepsThrough}
use Rattle.fault_fill.specs.Stops.{StopsAt, StopsWhile}
use Rattle.fault_fill.specs.Forced.{Forced, forcing_frame}
use Rattle.proc_calls.specs.Answered.{StopsOnce}

-- a new stack page is due first
pub record IsStartFirst (p : Placement) (page : Page) : Type 0 where
  pub others : List Due
  pub first : p.due ≡ Start page ∷ others

-- A frame is forced by hands that pass over no page, and the page takes it. The flat states for which the machine stood stay
-- so.
pub record FillsStart (page : Page) (old new : Standing) (holds : Option (List NamedFile)) (before after : Option SwapImage) : Type 0 where
  pub roomy : Standing
  pub forces : Forced [] old roomy holds before after
  pub fills : new ≡ record roomy { kernel = zero_step roomy.kernel page; room = None }
  pub keeps : KeepsThrough old new holds before after

-- The run stops as a frame is forced by hands that pass over these pages, or once it was, at the entry of the page that takes it.
abbrev pub StopsFilling : Entry → List Page → Standing → Standing → Option (List NamedFile) → Option SwapImage → Option SwapImage → Stop → Type 0
StopsFilling e locked old new holds before after stop =
    StopsWhile (forcing_frame locked) old new holds before after stop
    ⊎ StopsOnce (λ m. Forced locked old m holds before after) (λ m. StopsAt e m new after after stop)
