-- A run that goes on from entry to entry, and the state at which it stands after each.
use Rattle.std.specs.Prelude.{◌≡◌, ◌↔◌, ◌<◌, ◌≤◌, ℕ, suc, Bool, true, false, List, [], length, Option, Some, None}
use Rattle.vm_facts.specs.SwapImages.{SwapImage}
use Rattle.vm_facts.specs.declared.entry.Entry.{Entry}
use Rattle.vm_facts.specs.declared.event.Event.{Event}
use Rattle.vm_facts.specs.declared.params.Params.{Params}
use Rattle.io_edge.specs.FileHolding.{NamedFile}
use Rattle.flat_state.specs.Flat.{Inputs}
use Rattle.flat_state.specs.Journal.{append}
use Rattle.machine_state.specs.Going.{CanGoOn}
use Rattle.machine_state.specs.Machine.{Standing}
use Rattle.run_model.specs.declared.mark.Mark.{Mark}
use Rattle.run_model.specs.declared.mark.Mark.TheVariants as marks
use Rattle.run_model.specs.State.{State}
use Rattle.run_model.specs.Next.{next_unit}
use Rattle.vm_core.specs.Leads.{Leads}
use Rattle.vm_core.specs.FirstProcesses.{IsNew}
use Rattle.vm_core.specs.Cores.{StandsIn}
use Rattle.vm_core.specs.Lawful.{IsJournalOf}
use Rattle.vm_core.specs.RunEnds.{IsAskedOf}

-- What contracts see of a film: its machine, how many lines of the schedule were taken, the last mark, how many instructions were
-- counted, and whether the run is over.
pub record Filming : Type 0 where
  pub machine : Standing
  pub lines : ℕ
  pub mark : Mark
  pub counted : ℕ
  pub over : Bool

-- a mark asks for no more than a million moves of the hands; and turns come after the last of these lines, of which so many were taken
abbrev pub IsInOrder : List Event → ℕ → Mark → Type 0
IsInOrder lines taken (marks.Hands count) = count ≤ 1000000
IsInOrder lines taken (marks.Turn pid since) = length lines ≤ taken
IsInOrder lines taken _ = Unit {0}

-- The film stands at the state of a run to which its journal leads, with a swap image that is told: its machine runs and stands for
-- the state, bytes and registers too, and no pieces of swap wait. The next unit, if there is one, isn't joined to the last entry, and
-- the journal has no room for it; where there is none the run is over. It began with 64 processes at most.
pub record FilmAt (A : Inputs) (s : State) (f : Filming) (holds : Option (List NamedFile)) (i : Option SwapImage) (image : SwapImage)
    : Type 0 where
  pub stands : StandsIn A s f.machine holds i image f.counted
  pub made : IsJournalOf A f.machine.kernel.journal s
  pub ready : CanGoOn f.machine
  pub complete : (u : Entry) → next_unit A s ≡ Some u
      → length f.machine.kernel.journal < length (append f.machine.kernel.journal u)
  pub bound : f.machine.params.journal ≡ length f.machine.kernel.journal
  pub lines : s.lines ≡ f.lines
  pub mark : s.mark ≡ f.mark
  pub order : IsInOrder A.lines f.lines f.mark
  pub over : (f.over ≡ true) ↔ (next_unit A s ≡ None)
  pub few : length A.first ≤ 64

-- it stands at a state of some run that has these lines, in 64 frames or more
pub record IsFilming (f : Filming) (lines : List Event) (holds : Option (List NamedFile)) (i : Option SwapImage) : Type 0 where
  pub inputs : Inputs
  pub state : State
  pub image : SwapImage
  pub are : inputs.lines ≡ lines
  pub frames : 64 ≤ inputs.frames
  pub at : FilmAt inputs state f holds i image

-- The start.

-- a film that was made, and had no call yet, with room for no entry
pub record IsUnbegun (f : Filming) : Type 0 where
  pub machine : IsNew f.machine
  pub bound : f.machine.params.journal ≡ 0
  pub lines : f.lines ≡ 0
  pub mark : f.mark ≡ marks.Over
  pub counted : f.counted ≡ 0
  pub over : f.over ≡ false

-- it stands at the state of the run before the first entry
pub record FilmBegun (A : Inputs) (f : Filming) (holds : Option (List NamedFile)) (i : Option SwapImage) (image : SwapImage) : Type 0 where
  pub state : State
  pub at : FilmAt A state f holds i image
  pub first : f.machine.kernel.journal ≡ []

-- for all inputs that are the machine's, with these first processes and this schedule, where the files and a swap image are told
abbrev pub BeginsFilm : Filming → Filming → List ℕ → List Event → Option (List NamedFile) → Option SwapImage → Option SwapImage → Type 0
BeginsFilm old new numbers lines holds i j =
    (A : Inputs) (image : SwapImage) → IsAskedOf A old.machine numbers lines holds image → i ≡ Some image
    → FilmBegun A new holds j image

-- One entry more.

-- next units lead to where the film stands with one entry more
pub record OneMore (A : Inputs) (s : State) (old new : Filming) (holds : Option (List NamedFile)) (image : SwapImage) (j : Option SwapImage)
    : Type 0 where
  pub units : List Entry
  pub state : State
  pub behind : SwapImage
  pub leads : Leads A s old.machine.kernel image units state new.machine.kernel j
  pub at : FilmAt A state new holds j behind
  pub longer : length new.machine.kernel.journal ≡ suc (length old.machine.kernel.journal)

-- for every state of a run with these lines at which the film stands
abbrev pub FilmGoes : Filming → Filming → List Event → Option (List NamedFile) → Option SwapImage → Option SwapImage → Type 0
FilmGoes old new lines holds i j =
    (A : Inputs) (s : State) (image : SwapImage) → A.lines ≡ lines → FilmAt A s old holds i image → OneMore A s old new holds image j

-- the film stands at a state of a run with these lines
abbrev pub FilmsAt : Filming → List Event → Option (List NamedFile) → Option SwapImage → Inputs → State → SwapImage → Type 0
FilmsAt f lines holds i A s image = (A.lines ≡ lines) × FilmAt A s f holds i image

-- the sizes of a machine, with a journal of one entry more
abbrev pub one_wider : Params → Params
one_wider p = record p { journal = suc p.journal }
