-- The few reasons for which a page may lose its frame.
use Rattle.std.specs.Prelude.{◌≡◌, ℕ, true, false, List, Some}
use Rattle.vm_facts.specs.declared.page.Page.{Page}
use Rattle.vm_facts.specs.declared.entry.Entry.{Entry}
use Rattle.flat_state.specs.Flat.{Inputs, process_of}
use Rattle.flat_state.specs.declared.change.Change.TheVariants.{Resize, Exec, End}
use Rattle.page_model.specs.Place.{space_of_process}
use Rattle.flat_state.specs.Change.{is_borrower}
use Rattle.vm_facts.specs.Pages.{is_of_space}
use Rattle.page_laws.specs.Leaving.{takes_frames, IsTaken, IsCutOff}
use Rattle.flat_model.specs.Run.{process_of_entry, step_at}
use Rattle.run_model.specs.State.{State}
use Rattle.run_model.specs.After.{after}

-- the space of the process that makes an entry, by the flat state before it
abbrev pub space_of_maker : State → ℕ → ℕ
space_of_maker s pid = space_of_process (process_of s.point.flat pid)

-- a process's own space, which it didn't borrow, has the page
pub record IsOwnPage (s : State) (pid : ℕ) (q : Page) : Type 0 where
  pub own : is_borrower s.point.flat.processes pid ≡ false
  pub page : is_of_space (space_of_maker s pid) q ≡ true

-- why a page lost this frame at a unit: the frame was free and was taken, or the page was given up
pub data IsLost (A : Inputs) (s : State) (u : Entry) (q : Page) (f : ℕ) : Type 0 where
  -- the frame was free, and a fill or a read took it
  WasFree : takes_frames u ≡ true → IsTaken s.place (after A s u).place q f → IsLost A s u q f
  -- a break or a growth of the process's space gave it other sizes, and the page is beyond them
  WasCutOff : (pid data_pages stack_pages : ℕ) → process_of_entry u ≡ Some pid → (step_at A s.point pid).change ≡ Resize data_pages stack_pages
      → IsCutOff (space_of_maker s pid) data_pages stack_pages q → IsLost A s u q f
  -- a new image came in place of the process's own space
  WasReplaced : (pid image : ℕ) (top : List ℕ) → process_of_entry u ≡ Some pid → (step_at A s.point pid).change ≡ Exec image top
      → IsOwnPage s pid q → IsLost A s u q f
  -- the process ended, with its own space
  HasEnded : (pid status : ℕ) → process_of_entry u ≡ Some pid → (step_at A s.point pid).change ≡ End status → IsOwnPage s pid q → IsLost A s u q f
