-- Where the files and the swap image are told, the start leads into the run.
use Rattle.std.specs.Prelude.{◌≡◌, ◌⊎◌, ◌*◌, ◌≤◌, true, ℕ, List, [], length, replicate, Option, Some}
use Rattle.vm_facts.specs.SwapImages.{SwapImage}
use Rattle.vm_facts.specs.declared.entry.Entry.{Entry}
use Rattle.vm_facts.specs.declared.stop.Stop.{Stop}
use Rattle.vm_facts.specs.declared.stop.Stop.TheVariants as stops
use Rattle.io_edge.specs.FileHolding.{NamedFile}
use Rattle.swap_book.specs.Holdings.{Holdings}
use Rattle.flat_state.specs.Flat.{Inputs}
use Rattle.page_model.specs.PageBytes.{zeros}
use Rattle.kernel_model.specs.Kernel.{Kernel}
use Rattle.kernel_model.specs.Start.{ImagesFit, start_kernel}
use Rattle.machine_state.specs.Files.{AreRunImages}
use Rattle.machine_state.specs.Machine.{Standing}
use Rattle.run_model.specs.State.{State, start}
use Rattle.run_model.specs.Snapshot.{starting}
use Rattle.economy_laws.specs.RunLawsRunning.{CanRun}
use Rattle.proc_run.specs.Leads.{Leads}
use Rattle.proc_run.specs.RunUnitsServing.{SameBut}
use Rattle.proc_run.specs.Machines.{MachineAt}
use Rattle.proc_run.specs.Stepped.{StopLeads}
use Rattle.vm_core.specs.FirstProcesses.{StartsFrom}

-- The files hold the images of the inputs, which are as long as their pages, and this swap image has all blocks.
pub record IsTold (A : Inputs) (m : Standing) (numbers : List ℕ) (holds : Option (List NamedFile)) (image : SwapImage) : Type 0 where
  pub starts : StartsFrom A m numbers
  pub images : AreRunImages m.images holds A
  pub fit : ImagesFit A.images
  pub room : 512 * A.swap_blocks ≤ length image.bytes

-- the whole machine at the start of a run, with zeros in each frame
abbrev pub machine_at_start : Inputs → Holdings → Kernel
machine_at_start A hs = start_kernel A (starting A.images A.first) hs (replicate A.frames zeros)

-- From the start of the run next units lead to a state that is the start but for pages and journal, with nothing due and nothing to
-- come under its mark, which is over. The machine stands there.
pub record StartLeads (A : Inputs) (new : Standing) (holds : Option (List NamedFile)) (image : SwapImage) (j : Option SwapImage) : Type 0 where
  pub holdings : Holdings
  pub can : CanRun A holdings
  pub units : List Entry
  pub state : State
  pub leads : Leads A (start A holdings) (machine_at_start A holdings) image units state new.kernel j
  pub same : SameBut (start A holdings) state
  pub clear : state.place.due ≡ []
  pub machine : MachineAt A state new holds leads.behind

-- From a state next units fill what is due, and lead to one that is the same but for pages and journal, with nothing due. The machine
-- stands there.
pub record FillsLead (old new : Standing) (holds : Option (List NamedFile)) (j : Option SwapImage) (A : Inputs) (s : State)
    (image : SwapImage) : Type 0 where
  pub units : List Entry
  pub state : State
  pub leads : Leads A s old.kernel image units state new.kernel j
  pub same : SameBut s state
  pub clear : state.place.due ≡ []
  pub machine : MachineAt A state new holds leads.behind

-- The machine stands at a state of a run, with a swap image that is told.
pub record ToldAt (m : Standing) (holds : Option (List NamedFile)) (i : Option SwapImage) (A : Inputs) (s : State) (image : SwapImage) : Type 0 where
  pub machine : MachineAt A s m holds image
  pub told : i ≡ Some image

-- The run stops as the processes begin, for want of memory: no unit was made.
pub record StopsBeginning (new : Standing) (image : SwapImage) (stop : Stop) (j : Option SwapImage) : Type 0 where
  pub cause : stop ≡ stops.NoMemory
  pub stopped : new.kernel.stopped ≡ true
  pub journal : new.kernel.journal ≡ []
  pub told : j ≡ Some image

-- or after next units of the run
abbrev pub StartStops : Inputs → Standing → SwapImage → Stop → Option SwapImage → Type 0
StartStops A new image stop j =
    StopsBeginning new image stop j
    ⊎ ((hs : Holdings) × CanRun A hs × StopLeads A (start A hs) (machine_at_start A hs) image stop new j)
