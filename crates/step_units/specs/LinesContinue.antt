-- A machine goes on after what a line of the schedule asks for, and after the fill of a stack page.
use Rattle.std.specs.Prelude.{◌≡◌, ℕ, List, [], ◌∷◌, Option, None}
use Rattle.vm_facts.specs.SwapImages.{SwapImage}
use Rattle.vm_facts.specs.declared.page.Page.{Page}
use Rattle.io_edge.specs.FileHolding.{NamedFile}
use Rattle.page_model.specs.Placement.{Due, Start}
use Rattle.machine_state.specs.Done.{Sources, IsDone}
use Rattle.machine_state.specs.Machine.{Standing}
use Rattle.proc_calls.specs.Moved.{Moved}
use Rattle.proc_calls.specs.Filling.{FillsStart}
use Rattle.swapper.specs.declared.Turned.{Turned}
use Rattle.swapper.specs.Turns.{Turns}
use Rattle.step_units.specs.Ready.{Continues, RunsDue, RunsMoved}

-- Moves of the hands.
abbrev pub MovesContinue : Type 0
MovesContinue =
    (old new : Standing) (n made : ℕ) (holds : Option (List NamedFile)) (i j : Option SwapImage) → old.kernel.place.due ≡ [] → Moved n old new made holds i j
    → RunsMoved old new made

-- The end of a transfer.
abbrev pub DoneContinues : Type 0
DoneContinues =
    (old new : Standing) (from : Sources) (i : Option SwapImage) → old.kernel.place.due ≡ [] → IsDone from i old.kernel new.kernel
    → new ≡ record old { kernel = new.kernel; room = None } → Continues old new 0

-- A turn of the swapper.
abbrev pub TurnContinues : Type 0
TurnContinues =
    (turned : Turned) (old new : Standing) (holds : Option (List NamedFile)) (i j : Option SwapImage) → old.kernel.place.due ≡ []
    → Turns turned old new holds i j → Continues old new 0

-- The stack page that is due first, for which a frame is forced where none is free
abbrev pub FillContinues : Type 0
FillContinues =
    (old new : Standing) (page : Page) (ds : List Due) (holds : Option (List NamedFile)) (i j : Option SwapImage)
    → old.kernel.place.due ≡ Start page ∷ ds → FillsStart page old new holds i j → RunsDue old new 0 ds
