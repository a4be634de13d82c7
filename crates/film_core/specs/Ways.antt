-- Where a film stands on its way to the next entry: something due, a step begun, or a mark to go on with.
use Rattle.std.specs.Prelude.{◌≡◌, ℕ, ◌+◌, ◌≤◌, List, [], length, Option, Some, None}
use Rattle.vm_facts.specs.SwapImages.{SwapImage}
use Rattle.vm_facts.specs.declared.entry.Entry.{Entry}
use Rattle.vm_facts.specs.declared.event.Event.{Event}
use Rattle.io_edge.specs.FileHolding.{NamedFile}
use Rattle.swap_book.specs.Holdings.{Holdings}
use Rattle.flat_state.specs.Flat.{Inputs}
use Rattle.flat_state.specs.Journal.{instructions_of}
use Rattle.machine_state.specs.Going.{CanGoOn}
use Rattle.machine_state.specs.Machine.{Standing}
use Rattle.run_model.specs.declared.mark.Mark.{Mark}
use Rattle.run_model.specs.State.{State, start}
use Rattle.run_model.specs.Next.{next_unit, last_turned}
use Rattle.run_model.specs.Lawful.{Follows}
use Rattle.run_laws.specs.Running.{CanRun}
use Rattle.vm_core.specs.Leads.{Leads}
use Rattle.vm_core.specs.Machines.{MachineAt}
use Rattle.vm_core.specs.Stepped.{StepLeads}
use Rattle.vm_core.specs.StepUnitsLines.{IsOver, IsClear}
use Rattle.vm_core.specs.Choosing.{turn_after}
use Rattle.vm_core.specs.Cores.{StandsIn}
use Rattle.film_core.specs.Films.{IsInOrder}

-- next units lead from the start of a run to this state
pub record IsReached (A : Inputs) (s : State) : Type 0 where
  pub holdings : Holdings
  pub can : CanRun A holdings
  pub units : List Entry
  pub follows : Follows A (start A holdings) units s

-- The rest of a step.

-- The machine stands at a state of a run, whatever is due there and whatever step is begun.
pub record WayAt (m : Standing) (holds : Option (List NamedFile)) (i : Option SwapImage) (A : Inputs) (s : State) (image : SwapImage) : Type 0 where
  pub machine : MachineAt A s m holds image
  pub told : i ≡ Some image
  pub reached : IsReached A s

-- next units fill what is due and complete a step that is begun; so many instructions more are counted then
abbrev pub StepSettled : Standing → Standing → ℕ → ℕ → Option SwapImage → Inputs → State → SwapImage → Type 0
StepSettled old new counted count j A s image = (n : ℕ) × (count ≡ counted + n) × StepLeads A s old.kernel image n new.kernel j

-- The rest of a mark.

-- The machine stands at a state under this mark, with nothing due and no step begun, so many instructions being counted.
pub record RestAt (m : Standing) (last : Mark) (counted : ℕ) (holds : Option (List NamedFile)) (i : Option SwapImage) (A : Inputs) (s : State)
    (image : SwapImage) : Type 0 where
  pub stands : StandsIn A s m holds i image counted
  pub reached : IsReached A s
  pub clear : IsClear s
  pub mark : s.mark ≡ last
  pub order : IsInOrder A.lines s.lines last

-- next units lead to where nothing more is to come of it, so many instructions being counted
pub record RestDone (old new : Standing) (mark : Mark) (count : ℕ) (j : Option SwapImage) (A : Inputs) (s : State) (image : SwapImage) : Type 0 where
  pub units : List Entry
  pub state : State
  pub leads : Leads A s old.kernel image units state new.kernel j
  pub over : IsOver A state
  pub counts : state.count ≡ count
  pub lines : state.lines ≡ s.lines
  pub turned : last_turned state.mark ≡ last_turned mark

-- A machine that may be asked for an entry of its own, and then for a unit: it can go on, nothing is due, and it has 64
-- frames or more. Its last entry may count any moves of the hands.
pub record MayNote (m : Standing) : Type 0 where
  pub ready : CanGoOn m
  pub clear : m.kernel.place.due ≡ []
  pub frames : 64 ≤ length m.kernel.place.holds

-- a call leaves one, with the sizes and images of before, and so many instructions are counted
pub record StaysOn (old new : Standing) (count : ℕ) : Type 0 where
  pub may : MayNote new
  pub params : new.params ≡ old.params
  pub images : new.images ≡ old.images
  pub counts : instructions_of new.kernel.journal ≡ count

-- What comes after a mark.

-- The machine stands at a state at which the last mark is over, so many lines being taken and so many instructions counted; and this
-- process had the last turn, if any had.
pub record OverAt (m : Standing) (schedule : List Event) (taken counted last : ℕ) (holds : Option (List NamedFile)) (i : Option SwapImage)
    (A : Inputs) (s : State) (image : SwapImage) : Type 0 where
  pub stands : StandsIn A s m holds i image counted
  pub reached : IsReached A s
  pub over : IsOver A s
  pub are : A.lines ≡ schedule
  pub lines : s.lines ≡ taken
  pub turned : last_turned s.mark ≡ last

-- The same, whoever had the last turn.
pub record PastAt (m : Standing) (schedule : List Event) (taken counted : ℕ) (holds : Option (List NamedFile)) (i : Option SwapImage) (A : Inputs)
    (s : State) (image : SwapImage) : Type 0 where
  pub stands : StandsIn A s m holds i image counted
  pub reached : IsReached A s
  pub over : IsOver A s
  pub are : A.lines ≡ schedule
  pub lines : s.lines ≡ taken

-- The same, where this process has the next turn.
pub record OverBeforeTurn (m : Standing) (schedule : List Event) (taken counted pid : ℕ) (holds : Option (List NamedFile)) (i : Option SwapImage) (A : Inputs)
    (s : State) (image : SwapImage) : Type 0 where
  pub past : PastAt m schedule taken counted holds i A s image
  pub next : turn_after m.kernel (last_turned s.mark) ≡ Some pid

-- next units lead to a state that has none
pub record RunsOut (old new : Standing) (j : Option SwapImage) (A : Inputs) (s : State) (image : SwapImage) : Type 0 where
  pub units : List Entry
  pub state : State
  pub leads : Leads A s old.kernel image units state new.kernel j
  pub none : next_unit A state ≡ None

-- a machine that can go on, with the sizes and images of before
pub record EndsRunning (old new : Standing) : Type 0 where
  pub ready : CanGoOn new
  pub params : new.params ≡ old.params
  pub images : new.images ≡ old.images

-- The next mark, whose entry is there already.

-- The machine stands at a state under a mark, of a run with these lines, of which so many were taken.
pub record RoundAt (m : Standing) (last : Mark) (schedule : List Event) (taken counted : ℕ) (holds : Option (List NamedFile)) (i : Option SwapImage)
    (A : Inputs) (s : State) (image : SwapImage) : Type 0 where
  pub rest : RestAt m last counted holds i A s image
  pub are : A.lines ≡ schedule
  pub lines : s.lines ≡ taken

-- The whole way.

-- The machine stands at a state of a run under this mark, whatever the run's lines are and however many of them were taken.
pub record UnderAt (m : Standing) (last : Mark) (counted : ℕ) (holds : Option (List NamedFile)) (i : Option SwapImage) (A : Inputs) (s : State)
    (image : SwapImage) : Type 0 where
  pub stands : StandsIn A s m holds i image counted
  pub reached : IsReached A s
  pub mark : s.mark ≡ last
  pub order : IsInOrder A.lines s.lines last

-- The machine stands at a state of a run with these lines, of which so many were taken, under a mark.
pub record GoesAt (m : Standing) (last : Mark) (schedule : List Event) (taken counted : ℕ) (holds : Option (List NamedFile)) (i : Option SwapImage)
    (A : Inputs) (s : State) (image : SwapImage) : Type 0 where
  pub stands : StandsIn A s m holds i image counted
  pub reached : IsReached A s
  pub are : A.lines ≡ schedule
  pub lines : s.lines ≡ taken
  pub mark : s.mark ≡ last
  pub order : IsInOrder schedule taken last
