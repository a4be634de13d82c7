-- How a dirty page comes to be clean: its write ended, or its process gave it up.
use Rattle.std.specs.Prelude.{◌≡◌, ◌⊎◌, ℕ, List, [], ◌∷◌, Some}
use Rattle.vm_facts.specs.declared.page.Page.{Page}
use Rattle.vm_facts.specs.declared.entry.Entry.{Entry}
use Rattle.vm_facts.specs.declared.entry.Entry.TheVariants as entries
use Rattle.flat_state.specs.Flat.{Inputs}
use Rattle.flat_state.specs.Change.{is_borrower}
use Rattle.page_laws.specs.Leaving.{IsGivenUp, IsWritten}
use Rattle.flat_model.specs.Run.{process_of_entry, step_at}
use Rattle.run_model.specs.State.{State}
use Rattle.run_model.specs.After.{after}
use Rattle.economy_laws.specs.Lost.{space_of_maker}

-- why a page that was dirty in this frame isn't so after a unit: its write completed, or it was given up
pub data IsCleaned (A : Inputs) (s : State) (u : Entry) (q : Page) (f : ℕ) : Type 0 where
  -- the write of the page from its frame completed
  WasWritten : u ≡ entries.Done → IsWritten s.place (after A s u).place q f → IsCleaned A s u q f
  -- the step of a process gave the page up
  WasGivenUp : (pid : ℕ) → process_of_entry u ≡ Some pid
      → IsGivenUp (space_of_maker s pid) (is_borrower s.point.flat.processes pid) (step_at A s.point pid).change q → IsCleaned A s u q f

-- one of these units, from this state on, did so
abbrev pub CleanedIn : Inputs → State → List Entry → Page → ℕ → Type 0
CleanedIn A s [] q f = ⊥
CleanedIn A s (u ∷ us) q f = IsCleaned A s u q f ⊎ CleanedIn A (after A s u) us q f
