-- The lines of a schedule, one after another, from the first one on, and the closing phase after them.
use Rattle.std.specs.Prelude.{◌≡◌, ℕ, ◌≤◌, List, [], ◌∷◌, Option, None}
use Rattle.vm_facts.specs.SwapImages.{SwapImage}
use Rattle.vm_facts.specs.declared.entry.Entry.{Entry}
use Rattle.vm_facts.specs.declared.event.Event.{Event}
use Rattle.io_edge.specs.FileHolding.{NamedFile}
use Rattle.flat_state.specs.Flat.{Inputs}
use Rattle.run_model.specs.State.{State}
use Rattle.run_model.specs.Next.{next_unit}
use Rattle.proc_run.specs.Leads.{Leads}
use Rattle.vm_core.specs.declared.events.Went.{Went}
use Rattle.vm_core.specs.declared.events.Went.TheVariants as wents
use Rattle.vm_core.specs.Cores.{Underway, CoreAt}
use Rattle.vm_core.specs.Steady.{HasFewMoves}

-- no line asks for more moves of the hands than may be asked
abbrev pub HaveFewMoves : List Event → Type 0
HaveFewMoves [] = Unit {0}
HaveFewMoves (e ∷ es) = HasFewMoves e × HaveFewMoves es

-- The core stands at a state at which no line of these was taken, and they are the lines of the run.
pub record IsBeforeLines (c : Underway) (lines : List Event) (holds : Option (List NamedFile)) (i : Option SwapImage) (A : Inputs) (s : State)
    (image : SwapImage) : Type 0 where
  pub at : CoreAt A s c holds i image
  pub none : s.lines ≡ 0
  pub are : A.lines ≡ lines

-- Next units lead to where the core stands after so many lines.
pub record LinesTaken (old new : Underway) (holds : Option (List NamedFile)) (j : Option SwapImage) (taken : ℕ) (A : Inputs) (s : State)
    (image : SwapImage) : Type 0 where
  pub units : List Entry
  pub state : State
  pub behind : SwapImage
  pub leads : Leads A s old.machine.kernel image units state new.machine.kernel j
  pub at : CoreAt A state new holds j behind
  pub lines : state.lines ≡ taken

-- after some of the lines, as many instructions being counted as may; or after all of them
abbrev pub LinesWent : Underway → Underway → Went → ℕ → Option (List NamedFile) → Option SwapImage → Inputs → State → SwapImage → Type 0
LinesWent old new wents.Next all holds j A s image = LinesTaken old new holds j all A s image
LinesWent old new wents.LimitReached all holds j A s image = (taken : ℕ) × LinesTaken old new holds j taken A s image × (A.limit ≤ new.counted)

-- Next units lead to a state that has none.
pub record LinesFinished (old new : Underway) (j : Option SwapImage) (A : Inputs) (s : State) (image : SwapImage) : Type 0 where
  pub units : List Entry
  pub state : State
  pub leads : Leads A s old.machine.kernel image units state new.machine.kernel j
  pub none : next_unit A state ≡ None
