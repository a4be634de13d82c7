-- How a whole run ends by one call: finished, or stopped, with what is so then.
use Rattle.std.specs.Prelude.{◌≡◌, ◌⊎◌, ℕ, ◌+◌, ◌*◌, ◌<◌, ◌≤◌, ◌^◌, List, [], length, Option, Some, Result, Ok, Err}
use Rattle.vm_facts.specs.SwapImages.{SwapImage}
use Rattle.vm_facts.specs.declared.entry.Entry.{Entry}
use Rattle.vm_facts.specs.declared.event.Event.{Event}
use Rattle.vm_facts.specs.declared.stop.Stop.{Stop}
use Rattle.vm_facts.specs.declared.stop.Stop.TheVariants as stops
use Rattle.io_edge.specs.FileHolding.{NamedFile}
use Rattle.flat_state.specs.Flat.{Inputs}
use Rattle.flat_model.specs.Asked.{start_held}
use Rattle.kernel_model.specs.Start.{ImagesFit}
use Rattle.machine_state.specs.Machine.{Standing}
use Rattle.machine_state.specs.Files.{AreRunImages}
use Rattle.proc_run.specs.Reading.{AreNamed}
use Rattle.economy_laws.specs.Longwords.{AllImages}
use Rattle.vm_core.specs.declared.schedule.Unfinished.{Unfinished}
use Rattle.vm_core.specs.declared.schedule.Unfinished.TheVariants.{NoSpace, Stopped}
use Rattle.vm_core.specs.Lawful.{RunFinished, RunHalted, RunStarved}

-- the answer of the machine: it stops, or doesn't
abbrev pub stopped_as : Result (Unit {0}) Unfinished → Result (Unit {0}) Stop
stopped_as (Ok done) = Ok done
stopped_as (Err (NoSpace pid)) = Ok tt
stopped_as (Err (Stopped stop)) = Err stop

-- Inputs of a run that are those of a machine, with these first processes and this schedule, where the files and a swap image are
-- told: the files hold the images, which are of bytes and as long as their pages; the numbers of all processes are longwords; and
-- the swap image has all blocks.
pub record IsAskedOf (A : Inputs) (m : Standing) (numbers : List ℕ) (lines : List Event) (holds : Option (List NamedFile)) (image : SwapImage) : Type 0 where
  pub named : AreNamed A.images m.images
  pub first : A.first ≡ numbers
  pub lines_are : A.lines ≡ lines
  pub frames : A.frames ≡ m.params.frames
  pub blocks : A.swap_blocks ≡ m.params.swap_blocks
  pub limit : A.limit ≡ m.params.limit
  pub images : AreRunImages m.images holds A
  pub fit : ImagesFit A.images
  pub octets : AllImages A.images
  pub few : length A.first + 1 + A.limit < 2 ^ 32
  pub room : 512 * A.swap_blocks ≤ length image.bytes

-- nothing was done
abbrev pub NoneMade : List Entry → SwapImage → Option SwapImage → Type 0
NoneMade journal image after = (journal ≡ []) × (after ≡ Some image)

-- where the run stopped: for want of memory it may be anywhere
abbrev pub RunStops : Inputs → List Entry → SwapImage → Stop → Option SwapImage → Type 0
RunStops A journal image stops.NoMemory after = NoneMade journal image after ⊎ RunStarved A journal image after
RunStops A journal image stop after = RunHalted A journal stop image after

-- how a run of these inputs ends, by the answer
abbrev pub RunEnds : Inputs → List Entry → SwapImage → Result (Unit {0}) Unfinished → Option SwapImage → Type 0
RunEnds A journal image (Ok done) after = RunFinished A journal image after
RunEnds A journal image (Err (NoSpace pid)) after = NoneMade journal image after × (start_held A ≡ Err pid)
RunEnds A journal image (Err (Stopped stop)) after = RunStops A journal image stop after
