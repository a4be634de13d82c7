-- What a call that moves pages does to the files and the swap device, by why it stopped, over bounds `F: Files` and `D: SwapDev`.
use Rattle.std.specs.Prelude.{◌≡◌, ◌≤◌, ℕ, List, Option, Some, None, Result, Ok, Err, OnOk}
use Rattle.vm_facts.specs.declared.stop.Stop.{Stop}
use Rattle.vm_facts.specs.declared.stop.Stop.TheVariants as stops
use Rattle.io_edge.specs.Count.{Rose}
use Rattle.io_edge.specs.FileHolding.{NamedFile}
use Rattle.io_edge.specs.declared.files.Files.{Ghosts as FilesGhosts}
use Rattle.io_edge.specs.declared.swap_dev.SwapDev.{Ghosts as SwapGhosts}
use Rattle.table_steps.specs.Machine.{Standing}
use Rattle.table_steps.specs.Files.{AreFiles}
use Rattle.machine_state.specs.Going.{CanGoOn}

-- why a call stopped; none where it went on
abbrev pub stop_of : {A : Type 0} → Result A Stop → Option Stop
stop_of (Ok answer) = None
stop_of (Err stop) = Some stop

-- a count of failed reads of pages from files: it rises where such a read is why the call stopped, and stays in every other case
abbrev pub CountsFileFaults : Option Stop → ℕ → ℕ → Type 0
CountsFileFaults (Some stops.FileFault) old new = Rose old new
CountsFileFaults _ old new = new ≡ old

-- the same of failed reads from the swap device
abbrev pub CountsReadFaults : Option Stop → ℕ → ℕ → Type 0
CountsReadFaults (Some stops.SwapReadFault) old new = Rose old new
CountsReadFaults _ old new = new ≡ old

-- the same of failed writes to the swap device
abbrev pub CountsWriteFaults : Option Stop → ℕ → ℕ → Type 0
CountsWriteFaults (Some stops.SwapWriteFault) old new = Rose old new
CountsWriteFaults _ old new = new ≡ old

-- pages were read from files, none of them a file's first
pub record ReadsFilePages {F : Type 0} (f : FilesGhosts F) (stop : Option Stop) (old new : F) : Type 0 where
  pub leads : f.leads old new
  pub holds : f.holds new ≡ f.holds old
  pub open_faults : f.open_faults new ≡ f.open_faults old
  pub page_faults : CountsFileFaults stop (f.page_faults old) (f.page_faults new)

-- pages were read from the swap device and written to it
pub record MovesSwapPages {D : Type 0} (d : SwapGhosts D) (stop : Option Stop) (old new : D) : Type 0 where
  pub leads : d.leads old new
  pub blocks : d.blocks new ≡ d.blocks old
  pub read_faults : CountsReadFaults stop (d.read_faults old) (d.read_faults new)
  pub write_faults : CountsWriteFaults stop (d.write_faults old) (d.write_faults new)

-- both
pub record TransfersPages {F D : Type 0} (f : FilesGhosts F) (d : SwapGhosts D) (stop : Option Stop) (before after : F) (old new : D) : Type 0 where
  pub files : ReadsFilePages f stop before after
  pub swap : MovesSwapPages d stop old new

-- the device has as many blocks as the machine's swap area, and the files of its images are there, where they are told
pub record IsBacked (m : Standing) (holds : Option (List NamedFile)) (blocks : ℕ) : Type 0 where
  pub area : m.params.swap_blocks ≤ blocks
  pub files : AreFiles m.images holds

-- what a call that moves pages asks: the machine can go on, and is backed
pub record Asks (m : Standing) (holds : Option (List NamedFile)) (blocks : ℕ) : Type 0 where
  pub ready : CanGoOn m
  pub backed : IsBacked m holds blocks

-- what it leaves: what it did to files and device, and where it doesn't stop, what the next such call asks
pub record GoesOn {A F D : Type 0} (f : FilesGhosts F) (d : SwapGhosts D) (result : Result A Stop) (next : Standing) (before after : F) (old new : D)
    : Type 0 where
  pub outside : TransfersPages f d (stop_of result) before after old new
  pub asks : OnOk result (Asks next (f.holds after) (d.blocks new))
