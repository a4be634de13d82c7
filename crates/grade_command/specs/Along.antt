-- A film that goes on along a trace: how far the journal and the trace agree.
use Rattle.std.specs.Prelude.{◌≡◌, ◌≢◌, ℕ, Bool, true, false, List, [], ◌∷◌, ◌++◌, Option}
use Rattle.vm_facts.specs.SwapImages.{SwapImage}
use Rattle.vm_facts.specs.declared.entry.Entry.{Entry}
use Rattle.io_edge.specs.FileHolding.{NamedFile}
use Rattle.flat_state.specs.Flat.{Inputs}
use Rattle.run_model.specs.State.{State}
use Rattle.film_core.specs.Films.{Filming, FilmAt}
use Rattle.owner_lines.specs.First.{ComeFirst}

-- the last entry of a journal is the first one that isn't that of a trace
pub record PartsAtLast (journal entries : List Entry) : Type 0 where
  pub good : List Entry
  pub last : Entry
  pub bad : Entry
  pub more : List Entry
  pub journal_is : journal ≡ good ++ last ∷ []
  pub entries_are : entries ≡ good ++ bad ∷ more
  pub other : last ≢ bad

-- a journal comes first in a trace, or parts from it at its last entry
abbrev pub SoFar : Bool → List Entry → List Entry → Type 0
SoFar true journal entries = ComeFirst journal entries
SoFar false journal entries = PartsAtLast journal entries

-- The film stands at a state of the run, and its journal agrees with the trace, or has just parted from it.
pub record Along (A : Inputs) (f : Filming) (holds : Option (List NamedFile)) (i : Option SwapImage) (agrees : Bool) (entries : List Entry) : Type 0 where
  pub state : State
  pub image : SwapImage
  pub at : FilmAt A state f holds i image
  pub so_far : SoFar agrees f.machine.kernel.journal entries
