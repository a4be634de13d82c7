-- A film whose entries are noted so far: how far the notes have come.
use Rattle.std.specs.Prelude.{◌≡◌, ℕ, List, Option}
use Rattle.vm_facts.specs.SwapImages.{SwapImage}
use Rattle.io_edge.specs.FileHolding.{NamedFile}
use Rattle.flat_state.specs.Flat.{Inputs}
use Rattle.page_model.specs.Holdings.{Holdings}
use Rattle.run_model.specs.State.{State, start}
use Rattle.run_laws.specs.Running.{CanRun}
use Rattle.film_core.specs.Films.{Filming, FilmAt}
use Rattle.run_stats.specs.declared.look.Look.{Look}
use Rattle.run_stats.specs.declared.noting.Note.{Note}
use Rattle.run_stats.specs.Looks.{look_of, look_at}
use Rattle.run_stats.specs.Story.{AreNoted}

-- what is looked at of a film
abbrev pub look_at_film : Filming → Look
look_at_film f = look_of f.mark f.machine.kernel.place f.machine.kernel.holdings

-- The film stands at a state of the run, and these are the notes of all entries so far. This was looked at of its start.
pub record Counted (A : Inputs) (f : Filming) (holds : Option (List NamedFile)) (i : Option SwapImage) (first : Look) (notes : List Note) : Type 0 where
  pub state : State
  pub image : SwapImage
  pub at : FilmAt A state f holds i image
  pub holdings : Holdings
  pub can : CanRun A holdings
  pub looked : first ≡ look_at (start A holdings)
  pub noted : AreNoted A (start A holdings) notes state
