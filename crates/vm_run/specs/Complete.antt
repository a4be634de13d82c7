-- A run of sound inputs, over which no call fails, is finished, or lacks memory, or has a full journal.
use Rattle.std.specs.Prelude.{◌≡◌, ◌⊎◌, ℕ, List, length, Some, Err}
use Rattle.vm_facts.specs.SwapImages.{SwapImage}
use Rattle.io_edge.specs.Count.{Rose}
use Rattle.io_edge.specs.FileHolding.{NamedFile}
use Rattle.flat_state.specs.Flat.{Inputs}
use Rattle.flat_model.specs.Asked.{start_held}
use Rattle.io_edge.specs.Octets.{AreOctetFiles}
use Rattle.command_words.specs.Asked.{Request}
use Rattle.question_command.specs.RunCommandAsking.{AsksFor}
use Rattle.question_command.specs.Seen.{Seen, DeviceFailed}
use Rattle.question_command.specs.Machines.{journal_entries}
use Rattle.question_command.specs.RunCommandEnds.{DevicesSuffice, AllGood, Runs}
use Rattle.question_command.specs.Loads.{load_numbers, Loads}

-- Files and swap are told, the schedule, the images and the devices are good, and the first processes' pieces find their places.
pub record IsWellTold (request : Request) (seen : Seen) (files : List NamedFile) (image : SwapImage) : Type 0 where
  pub files_told : seen.files ≡ Some files
  pub swap_told : seen.swap_before ≡ Some image
  pub octets : AreOctetFiles files
  pub good : AllGood request seen files
  pub space : (A : Inputs) → AsksFor A request files → (pid : ℕ) → start_held A ≡ Err pid → ⊥

-- no count of failed calls rose
pub record NoneRose (seen : Seen) : Type 0 where
  pub opens : Rose seen.faults.open_before seen.faults.open_after → ⊥
  pub pages : Rose seen.faults.page_before seen.faults.page_after → ⊥
  pub reads : (device : ℕ) → DeviceFailed device seen.reads → ⊥
  pub writes : (device : ℕ) → DeviceFailed device seen.writes → ⊥
  pub sink : Rose seen.sink_faults_before seen.sink_faults_after → ⊥

-- it is finished; or it found no memory; or its journal has all entries that it may have
abbrev pub IsComplete : (request : Request) (seen : Seen) (status : ℕ) → Runs request seen status → Type 0
IsComplete request seen status runs = (status ≡ 0) ⊎ ((status ≡ 9) ⊎ ((status ≡ 10) × (length runs.journal ≡ journal_entries)))

-- a run of sound inputs is complete, where no count of failed calls rose
abbrev pub RunsComplete : Type 0
RunsComplete =
    (request : Request) (seen : Seen) (status : ℕ) (files : List NamedFile) (image : SwapImage) (runs : Runs request seen status)
    → IsWellTold request seen files image → NoneRose seen → IsComplete request seen status runs

-- The same of a load, whose devices have the blocks that it needs.
abbrev pub IsCompleteLoad : (number : ℕ) (seen : Seen) (status : ℕ) → Loads number seen status → Type 0
IsCompleteLoad number seen status loads = (status ≡ 0) ⊎ ((status ≡ 9) ⊎ ((status ≡ 10) × (length loads.journal ≡ journal_entries)))

-- so is a load on such devices
abbrev pub LoadsComplete : Type 0
LoadsComplete =
    (number : ℕ) (seen : Seen) (status : ℕ) (loads : Loads number seen status) → DevicesSuffice load_numbers.swap seen → NoneRose seen
    → IsCompleteLoad number seen status loads

-- Where the devices are told too, its journal is far from all entries that it may have: it is finished, or it found no memory.
abbrev pub ToldLoadsComplete : Type 0
ToldLoadsComplete =
    (number : ℕ) (seen : Seen) (status : ℕ) (image : SwapImage) → Loads number seen status → seen.swap_before ≡ Some image
    → DevicesSuffice load_numbers.swap seen → NoneRose seen
    → (status ≡ 0) ⊎ (status ≡ 9)
