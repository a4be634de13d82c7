-- What the start of a core asks, and where it leads or stops.
use Rattle.std.specs.Prelude.{◌≡◌, ◌⊎◌, ℕ, List, Option, Some}
use Rattle.vm_facts.specs.SwapImages.{SwapImage}
use Rattle.vm_facts.specs.declared.entry.Entry.{Entry}
use Rattle.vm_facts.specs.declared.stop.Stop.{Stop}
use Rattle.io_edge.specs.FileHolding.{NamedFile}
use Rattle.swap_book.specs.Holdings.{Holdings}
use Rattle.flat_state.specs.Flat.{Inputs}
use Rattle.machine_state.specs.Machine.{Standing}
use Rattle.run_model.specs.State.{State, start}
use Rattle.run_model.specs.Swapped.{left_from}
use Rattle.economy_laws.specs.RunLawsRunning.{CanRun}
use Rattle.proc_run.specs.Leads.{Leads}
use Rattle.proc_run.specs.RunUnitsServing.{SameBut}
use Rattle.vm_core.specs.FirstProcesses.{IsNew}
use Rattle.vm_core.specs.Leading.{IsTold, machine_at_start, StopsBeginning}
use Rattle.proc_run.specs.Accounts.{Account}
use Rattle.proc_run.specs.Economy.{Economy}
use Rattle.vm_core.specs.Accounts.{StopsAccounted}
use Rattle.vm_core.specs.Cores.{Underway, InputsOf, CoreAt}

-- a run that was made, and had no call yet
pub record IsFresh (c : Underway) : Type 0 where
  pub machine : IsNew c.machine
  pub counted : c.counted ≡ 0

-- The run of these inputs can begin, and from its start next units lead to a state that is the start but for pages and journal. The
-- core stands there, between two lines, none of which was taken. The units are accounted for, and few, and the swap image is the one
-- that they say.
pub record CoreStarted (A : Inputs) (new : Underway) (holds : Option (List NamedFile)) (image : SwapImage) (j : Option SwapImage) : Type 0 where
  pub holdings : Holdings
  pub can : CanRun A holdings
  pub units : List Entry
  pub state : State
  pub behind : SwapImage
  pub leads : Leads A (start A holdings) (machine_at_start A holdings) image units state new.machine.kernel j
  pub same : SameBut (start A holdings) state
  pub at : CoreAt A state new holds j behind
  pub account : Account A (start A holdings) units
  pub economy : Economy A (start A holdings) units
  pub swapped : behind ≡ left_from A (start A holdings) units image

-- for all inputs that are those of the machine, with these first processes, where the files hold the images and a swap image is told
abbrev pub StartsRun : Underway → Underway → List ℕ → Option (List NamedFile) → Option SwapImage → Option SwapImage → Type 0
StartsRun old new numbers holds i j =
    (A : Inputs) (image : SwapImage) → IsTold A old.machine numbers holds image → InputsOf A old.machine → i ≡ Some image → CoreStarted A new holds image j

-- The run stops as the processes begin, for want of memory; or after next units of the run.
abbrev pub StopsStartingRun : Inputs → Standing → SwapImage → Stop → Option SwapImage → Type 0
StopsStartingRun A new image stop j =
    StopsBeginning new image stop j
    ⊎ ((hs : Holdings) × CanRun A hs × StopsAccounted A (start A hs) (machine_at_start A hs) image stop new j)
