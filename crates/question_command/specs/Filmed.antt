-- A film of which the first steps are in the text: how far the text has come.
use Rattle.std.specs.Prelude.{◌≡◌, ℕ, List, ◌++◌, length, Option, Some}
use Rattle.std.specs.List.{concat}
use Rattle.vm_facts.specs.SwapImages.{SwapImage}
use Rattle.vm_facts.specs.declared.event.Event.{Event}
use Rattle.io_edge.specs.FileHolding.{NamedFile}
use Rattle.flat_state.specs.Flat.{Inputs}
use Rattle.machine_state.specs.Machine.{Standing}
use Rattle.run_model.specs.State.{State}
use Rattle.film_core.specs.RunEnds.{IsAskedOf}
use Rattle.film_core.specs.Films.{Filming, FilmAt}
use Rattle.run_stats.specs.Owners.{owners_lines}
use Rattle.command_words.specs.declared.command.FilmSteps.{FilmSteps}
use Rattle.reference_commands.specs.Answering.{step_numbers, step_line, TellSteps}

-- there are such inputs, and the swap image is told
pub record IsAskable (m : Standing) (first : List ℕ) (lines : List Event) (holds : Option (List NamedFile)) (i : Option SwapImage) : Type 0 where
  pub inputs : Inputs
  pub image : SwapImage
  pub asked : IsAskedOf inputs m first lines holds image
  pub told : i ≡ Some image

-- the step of a film after the entries so far
abbrev pub step_text : Filming → List ℕ
step_text f = step_line f.machine.kernel.journal ++ owners_lines f.machine f.over

-- The film stands at a state of the run.
pub record IsAtState (A : Inputs) (f : Filming) (holds : Option (List NamedFile)) (i : Option SwapImage) : Type 0 where
  pub state : State
  pub image : SwapImage
  pub at : FilmAt A state f holds i image

-- The film stands at a state of the run, and the text has its steps so far.
pub record Filmed (A : Inputs) (steps : FilmSteps) (f : Filming) (holds : Option (List NamedFile)) (i : Option SwapImage) (text : List ℕ) : Type 0 where
  pub state : State
  pub image : SwapImage
  pub at : FilmAt A state f holds i image
  pub texts : List (List ℕ)
  pub tell : TellSteps A (step_numbers steps (length f.machine.kernel.journal)) texts
  pub told : text ≡ concat texts
