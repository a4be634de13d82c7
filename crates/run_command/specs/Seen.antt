-- What a run sees of its files, devices and output, before and after.
use Rattle.std.specs.Prelude.{◌≡◌, ◌<◌, ℕ, List, Option}
use Rattle.vm_facts.specs.SwapImages.{SwapImage}
use Rattle.io_edge.specs.FileHolding.{NamedFile}
use Rattle.io_edge.specs.FileRequests.{FileNotes}
use Rattle.io_edge.specs.WithFiles.{with_files}
use Rattle.io_edge.specs.PairFailures.{RoseAlone}
use Rattle.command_edge.specs.Command.{Faults}

-- counts of failed calls of one kind on both swap devices
pub record DeviceFaults : Type 0 where
  pub zero_before : ℕ
  pub zero_after : ℕ
  pub one_before : ℕ
  pub one_after : ℕ

-- no call failed
pub record NoneFailed (f : DeviceFaults) : Type 0 where
  pub zero : f.zero_after ≡ f.zero_before
  pub one : f.one_after ≡ f.one_before

-- the device is 0 or 1, one call on it failed, and none on the other
abbrev pub DeviceFailed : ℕ → DeviceFaults → Type 0
DeviceFailed device f = (device < 2) × RoseAlone device f.zero_before f.zero_after f.one_before f.one_after

-- counts of failed calls of files and of both swap devices
pub record CallFaults : Type 0 where
  pub files : Faults
  pub reads : DeviceFaults
  pub writes : DeviceFaults

-- what a run sees of its files, its two swap devices and its output, before and after
pub record Seen : Type 0 where
  -- the files, where they are told, the counts of their faults, and what they will have noted of what is asked of them
  pub files : Option (List NamedFile)
  pub faults : Faults
  pub notes_before : FileNotes
  pub notes_after : FileNotes
  -- the blocks of the devices, the swap image that they make together, where both tell theirs, and their faults
  pub zero_blocks : ℕ
  pub one_blocks : ℕ
  pub swap_before : Option SwapImage
  pub swap_after : Option SwapImage
  pub reads : DeviceFaults
  pub writes : DeviceFaults
  -- the output, where it is told, and its faults
  pub written_before : Option (List ℕ)
  pub written_after : Option (List ℕ)
  pub sink_faults_before : ℕ
  pub sink_faults_after : ℕ

-- the swap image with the files beside it, after the run
abbrev pub stores_after : Seen → Option SwapImage
stores_after seen = with_files seen.notes_after seen.swap_after
