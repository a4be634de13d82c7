-- The journal of a run, where its files and its swap devices are told.
use Rattle.std.specs.Prelude.{◌≡◌, ◌⊎◌, ℕ, List, [], Option, Some, None}
use Rattle.vm_facts.specs.SwapImages.{SwapImage}
use Rattle.vm_facts.specs.declared.entry.Entry.{Entry}
use Rattle.vm_facts.specs.declared.stop.Stop.{Stop}
use Rattle.swap_book.specs.Holdings.{Holdings}
use Rattle.flat_state.specs.Flat.{Inputs}
use Rattle.flat_state.specs.Journal.{appended}
use Rattle.run_model.specs.State.{State, start}
use Rattle.run_model.specs.Next.{next_unit}
use Rattle.run_model.specs.Lawful.{Follows, IsLawful}
use Rattle.run_model.specs.Swapped.{swap_left}
use Rattle.economy_laws.specs.RunLawsRunning.{CanRun, IsIdle}
use Rattle.proc_run.specs.Accounts.{Account}
use Rattle.proc_run.specs.Economy.{Economy}
use Rattle.vm_core.specs.Halting.{HaltsFor, LeavesImage}

-- A journal of a run, and the state to which it leads. It is lawful: units make it, each of which is the next one by the written
-- policy, and it is a run of the flat machine, in which each process has memory of its own and nothing is paged. At each unit the
-- account is so: each frame and each block of swap has one owner or is free, and space is refused exactly where none is found.
pub record IsJournalOf (A : Inputs) (journal : List Entry) (s : State) : Type 0 where
  pub holdings : Holdings
  pub can : CanRun A holdings
  pub units : List Entry
  pub follows : Follows A (start A holdings) units s
  pub joined : appended [] units ≡ journal
  pub lawful : IsLawful A journal s
  pub account : Account A (start A holdings) units
  pub economy : Economy A (start A holdings) units

-- The run is finished: there is no next unit, so as many instructions ran as may, or no process can step after the last line.
pub record RunFinished (A : Inputs) (journal : List Entry) (image : SwapImage) (after : Option SwapImage) : Type 0 where
  pub state : State
  pub made : IsJournalOf A journal state
  pub none : next_unit A state ≡ None
  pub ends : (state.count ≡ A.limit) ⊎ IsIdle A state
  pub left : after ≡ Some (swap_left A journal image)

-- It halted at its next unit, for a cause.
pub record RunHalted (A : Inputs) (journal : List Entry) (stop : Stop) (image : SwapImage) (after : Option SwapImage) : Type 0 where
  pub state : State
  pub made : IsJournalOf A journal state
  pub unit : Entry
  pub next : next_unit A state ≡ Some unit
  pub why : HaltsFor stop unit state
  pub left : SwapImage
  pub told : after ≡ Some left
  pub image_left : LeavesImage stop A state unit (swap_left A journal image) left

-- It found no memory, at any place.
pub record RunStarved (A : Inputs) (journal : List Entry) (image : SwapImage) (after : Option SwapImage) : Type 0 where
  pub state : State
  pub made : IsJournalOf A journal state
  pub left : after ≡ Some (swap_left A journal image)
