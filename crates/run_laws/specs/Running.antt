-- The invariant of a run's states, as laws and contracts cite it.
use Rattle.std.specs.Prelude.{◌≡◌, ℕ, ◌<◌, ◌≤◌, true, false, List, [], ◌∷◌, length, Option, Some, Ok}
use Rattle.swap_book.specs.Holdings.{Holdings}
use Rattle.flat_state.specs.Flat.{NamedImage, Inputs, image_numbered, can_step}
use Rattle.page_model.specs.Swapper.{is_out}
use Rattle.kernel_model.specs.Start.{ImagesFit}
use Rattle.flat_state.specs.Numbers.{IsNumbered}
use Rattle.flat_state.specs.Lenders.{LendsStand}
use Rattle.flat_model.specs.Asked.{start_held}
use Rattle.flat_model.specs.Touched.{touched}
use Rattle.run_model.specs.Wanted.{running, AllValid}
use Rattle.run_model.specs.State.{State}
use Rattle.flat_laws.specs.Whole.{AllSized}
use Rattle.run_laws.specs.Standing.{Placed, TextsHeld, MarkStands}
use Rattle.run_laws.specs.Flowing.{Flows}

-- The placement and the holdings stand for the flat state; no two numbers are one, each space that was lent is with its
-- borrower, and the texts are the images'; text and data of each space are whole pages, and no more than may be; the last
-- flat entry says what comes; and the mark can be carried out.
pub record IsRun (A : Inputs) (s : State) : Type 0 where
  pub placed : Placed A s.point.flat s.place s.holdings
  pub numbers : IsNumbered s.point.flat
  pub lenders : LendsStand s.point.flat
  pub texts : TextsHeld A.images s.point.flat
  pub sized : AllSized s.point.flat.processes
  pub flows : Flows A s
  pub mark : MarkStands s s.mark

-- each first process has an image
abbrev pub FirstThere : List NamedImage → List ℕ → Type 0
FirstThere images [] = Unit {0}
FirstThere images (n ∷ ns) = ((named : NamedImage) × (image_numbered images n ≡ Some named)) × FirstThere images ns

-- Inputs of a run: the images are as long as their pages, each first process has one, there is a frame, and the first
-- processes' pieces find their places.
pub record CanRun (A : Inputs) (hs : Holdings) : Type 0 where
  pub images : ImagesFit A.images
  pub first : FirstThere A.images A.first
  pub frames : 0 < A.frames
  pub pieces : start_held A ≡ Ok hs

-- A process that makes a flat entry runs under the mark, can step, is in, and all pages that it touches are valid.
pub record ReadyToStep (A : Inputs) (s : State) (pid : ℕ) : Type 0 where
  pub runs : running s.mark ≡ Some pid
  pub steps : can_step s.point.flat pid ≡ true
  pub resident : is_out s.place pid ≡ false
  pub clear : s.place.due ≡ []
  pub pages : AllValid s.place (touched A s.point.flat pid)
  pub below : s.count < A.limit

-- All lines are taken, and no process can step.
pub record IsIdle (A : Inputs) (s : State) : Type 0 where
  pub lines : length A.lines ≤ s.lines
  pub idle : (pid : ℕ) → 0 < pid → can_step s.point.flat pid ≡ false
