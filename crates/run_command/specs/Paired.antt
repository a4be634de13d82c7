-- A run over two swap devices: which of them failed, and the image that both make.
use Rattle.std.specs.Prelude.{◌≡◌, ℕ, Option, Result, Ok, Err}
use Rattle.vm_facts.specs.SwapImages.{SwapImage}
use Rattle.vm_facts.specs.declared.stop.Stop.{Stop}
use Rattle.vm_facts.specs.declared.stop.Stop.TheVariants as stops
use Rattle.io_edge.specs.Striping.{pair_blocks, pair_image}
use Rattle.vm_core.specs.declared.schedule.Unfinished.{Unfinished}
use Rattle.vm_core.specs.declared.schedule.Unfinished.TheVariants as ends
use Rattle.command_edge.specs.declared.fault.Fault.{Fault}
use Rattle.command_edge.specs.declared.fault.Fault.TheVariants.{FileFault, SwapReadFault, SwapWriteFault, NoMemory, JournalFull, NoSpace}
use Rattle.run_command.specs.Seen.{DeviceFaults, NoneFailed, DeviceFailed}

-- the swap image that two devices make together
abbrev pub image_together : ℕ → ℕ → Option SwapImage → Option SwapImage → Option SwapImage
image_together zero_blocks one_blocks zero one = pair_image (pair_blocks zero_blocks one_blocks) zero one

-- why a run isn't finished, but for the device that failed
abbrev pub unfinished_by : Fault → Unfinished
unfinished_by FileFault = ends.Stopped stops.FileFault
unfinished_by (SwapReadFault device) = ends.Stopped stops.SwapReadFault
unfinished_by (SwapWriteFault device) = ends.Stopped stops.SwapWriteFault
unfinished_by JournalFull = ends.Stopped stops.JournalFull
unfinished_by (NoSpace pid) = ends.NoSpace pid
unfinished_by _ = ends.Stopped stops.NoMemory

-- whether a run is finished, or why it isn't, but for the device that failed
abbrev pub unfinished_of : Result (Unit {0}) Fault → Result (Unit {0}) Unfinished
unfinished_of (Ok done) = Ok done
unfinished_of (Err fault) = Err (unfinished_by fault)

-- a fault of a run that began
abbrev pub IsRunFault : Fault → Type 0
IsRunFault FileFault = Unit {0}
IsRunFault (SwapReadFault device) = Unit {0}
IsRunFault (SwapWriteFault device) = Unit {0}
IsRunFault NoMemory = Unit {0}
IsRunFault JournalFull = Unit {0}
IsRunFault (NoSpace pid) = Unit {0}
IsRunFault _ = ⊥

-- the fault of a stop, but for the device that failed
abbrev pub IsFaultOf : Stop → Fault → Type 0
IsFaultOf stop fault = unfinished_by fault ≡ ends.Stopped stop

-- a device failed to read exactly where that is the fault
abbrev pub ReadsFail : Result (Unit {0}) Fault → DeviceFaults → Type 0
ReadsFail (Err (SwapReadFault device)) f = DeviceFailed device f
ReadsFail _ f = NoneFailed f

-- a device failed to write exactly where that is the fault
abbrev pub WritesFail : Result (Unit {0}) Fault → DeviceFaults → Type 0
WritesFail (Err (SwapWriteFault device)) f = DeviceFailed device f
WritesFail _ f = NoneFailed f
