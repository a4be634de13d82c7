-- How a child's due pages are copied, each once its parent's page is valid; and where that stops.
use Rattle.std.specs.Prelude.{◌≡◌, ◌⊎◌, ℕ, ◌≤◌, true, List, [], ◌∷◌, length, Option, None}
use Rattle.vm_facts.specs.SwapImages.{SwapImage}
use Rattle.vm_facts.specs.declared.page.Page.{Page}
use Rattle.vm_facts.specs.declared.page.Page.TheVariants.{Data, Stack, Text}
use Rattle.vm_facts.specs.declared.entry.Entry.TheVariants.{Copy}
use Rattle.vm_facts.specs.declared.stop.Stop.{Stop}
use Rattle.io_edge.specs.FileHolding.{NamedFile}
use Rattle.page_model.specs.Placement.{Placement, Due, Start, CopyOf}
use Rattle.page_model.specs.Place.{due_after}
use Rattle.kernel_model.specs.Kernel.{copy_step}
use Rattle.machine_state.specs.Machine.{Standing}
use Rattle.machine_state.specs.Done.{KeepsThrough}
use Rattle.fault_fill.specs.LastMoves.{last_moves}
use Rattle.fault_fill.specs.Forced.{Forced}
use Rattle.fault_fill.specs.Stops.{StopsWhile}
use Rattle.fault_fill.specs.Serving.{serving_page}
use Rattle.fault_fill.specs.Answers.{ServesNow}
use Rattle.proc_calls.specs.Answered.{StopsOnce}
use Rattle.proc_calls.specs.Filling.{StopsFilling}

-- the page of this name in another space
abbrev pub in_space : ℕ → Page → Page
in_space sid (Data s v) = Data sid v
in_space sid (Stack s v) = Stack sid v
in_space sid (Text image v) = Text image v

-- each page that is due is copied from the page of its name in this space
abbrev pub AreCopiesFrom : ℕ → List Due → Type 0
AreCopiesFrom sid [] = Unit {0}
AreCopiesFrom sid (Start q ∷ ds) = ⊥
AreCopiesFrom sid (CopyOf q parent ∷ ds) = (parent ≡ in_space sid q) × AreCopiesFrom sid ds

-- a page is due first, for a copy of its parent's
pub record IsCopyFirst (p : Placement) (child parent : Page) : Type 0 where
  pub others : List Due
  pub first : p.due ≡ CopyOf child parent ∷ others

-- The parent's page is served until it is valid, a frame is forced by hands that pass over it, and the child's page is copied.
-- The flat states for which the machine stood stay so.
pub record CopiesPage (child parent : Page) (old new : Standing) (holds : Option (List NamedFile)) (before after : Option SwapImage) : Type 0 where
  pub served : Standing
  pub behind : Option SwapImage
  pub serves : ServesNow (parent ∷ []) parent old served holds before behind
  pub roomy : Standing
  pub forces : Forced (parent ∷ []) served roomy holds behind after
  pub copies : new ≡ record roomy { kernel = copy_step roomy.kernel child; room = None }
  pub keeps : KeepsThrough old new holds before after

-- The run stops as the parent's page is served, or once it was, as the child's page takes a frame.
abbrev pub StopsPage : Page → Page → Standing → Standing → Option (List NamedFile) → Option SwapImage → Option SwapImage → Stop → Type 0
StopsPage child parent old new holds before after stop =
    StopsWhile (serving_page true (parent ∷ []) parent) old new holds before after stop
    ⊎ ((told : Option SwapImage)
    × StopsOnce (λ m. ServesNow (parent ∷ []) parent old m holds before told) (λ m. StopsFilling (Copy child) (parent ∷ []) m new holds told after stop))

-- once a page is copied it isn't due, and there are as many frames as before
pub record OnceCopied (child : Page) (old new : Standing) : Type 0 where
  pub params : new.params ≡ old.params
  pub images : new.images ≡ old.images
  pub due : new.kernel.place.due ≡ due_after old.kernel.place.due child
  pub frames : length new.kernel.place.holds ≡ length old.kernel.place.holds
  pub last : last_moves new.kernel.journal ≡ 0

-- all pages that are due are copied in turn
abbrev pub CopiesAll : List Due → Standing → Standing → Option (List NamedFile) → Option SwapImage → Option SwapImage → Type 0
CopiesAll [] old new holds before after = (new ≡ old) × (after ≡ before)
CopiesAll (Start q ∷ ds) old new holds before after = ⊥
CopiesAll (CopyOf child parent ∷ ds) old new holds before after =
    (next : Standing) × (between : Option SwapImage) × CopiesPage child parent old next holds before between × CopiesAll ds next new holds between after

-- after the copies no page is due, there are as many frames as before, and the last entry counts no more moves of the hands
pub record HasCopied (old new : Standing) : Type 0 where
  pub params : new.params ≡ old.params
  pub images : new.images ≡ old.images
  pub due : new.kernel.place.due ≡ []
  pub frames : length new.kernel.place.holds ≡ length old.kernel.place.holds
  pub low : last_moves new.kernel.journal ≤ last_moves old.kernel.journal

-- the run stops at one of them
abbrev pub StopsCopying : List Due → Standing → Standing → Option (List NamedFile) → Option SwapImage → Option SwapImage → Stop → Type 0
StopsCopying [] old new holds before after stop = ⊥
StopsCopying (Start q ∷ ds) old new holds before after stop = ⊥
StopsCopying (CopyOf child parent ∷ ds) old new holds before after stop =
    StopsPage child parent old new holds before after stop
    ⊎ ((told : Option SwapImage) × StopsOnce (λ m. CopiesPage child parent old m holds before told) (λ m. StopsCopying ds m new holds told after stop))
