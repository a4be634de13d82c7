-- What is known of the units that were made where a run stops.
use Rattle.std.specs.Prelude.{◌≡◌, ℕ, List, Option}
use Rattle.vm_facts.specs.SwapImages.{SwapImage}
use Rattle.vm_facts.specs.declared.stop.Stop.{Stop}
use Rattle.flat_state.specs.Flat.{Inputs}
use Rattle.kernel_model.specs.Kernel.{Kernel}
use Rattle.machine_state.specs.Machine.{Standing}
use Rattle.run_model.specs.State.{State}
use Rattle.run_model.specs.Swapped.{left_from}
use Rattle.proc_run.specs.Stepped.{StopLeads, LeadsFrom}
use Rattle.proc_run.specs.Accounts.{Account}
use Rattle.proc_run.specs.Economy.{Economy}

-- Next units lead to a state, and there the run stopped. These units are accounted for, and few, and up to the one at which the
-- run stopped the swap image is the one that they say.
pub record StopsAccounted (A : Inputs) (s : State) (k : Kernel) (image : SwapImage) (stop : Stop) (new : Standing) (j : Option SwapImage) : Type 0 where
  pub led : StopLeads A s k image stop new j
  pub account : Account A s led.units
  pub economy : Economy A s led.units
  pub swapped : led.behind ≡ left_from A s led.units image

-- It stopped so on the way from each state with a swap image at which this is so.
abbrev pub StopsAccountedFrom : (Inputs → State → SwapImage → Type 0) → Standing → Standing → Option SwapImage → Stop → Type 0
StopsAccountedFrom IsAt old new j stop = LeadsFrom IsAt (λ A s image. StopsAccounted A s old.kernel image stop new j)
