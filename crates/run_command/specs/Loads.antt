-- What the command `load` is: a run of the workload of a number, which is counted.
use Rattle.std.specs.Prelude.{◌≡◌, ◌⊎◌, ◌≤◌, ℕ, List, [], ◌∷◌, length, codes, IfErr, Option, Some, Ok, Err}
use Rattle.vm_facts.specs.SwapImages.{SwapImage}
use Rattle.aout_image.specs.Image.{Loaded}
use Rattle.io_edge.specs.Written.{Appends}
use Rattle.vm_facts.specs.declared.entry.Entry.{Entry}
use Rattle.flat_state.specs.Flat.{NamedImage, Inputs}
use Rattle.flat_model.specs.Asked.{start_held}
use Rattle.vm_core.specs.RunEnds.{NoneMade}
use Rattle.command_edge.specs.declared.fault.Fault.TheVariants.{FileFault, NoMemory, NoSpace, ShortDevice}
use Rattle.command_edge.specs.Ending.{fault_status, fault_line, NeedsMemory}
use Rattle.command_edge.specs.Command.{NoFaults, Writes}
use Rattle.command_words.specs.declared.command.Numbers.{Numbers}
use Rattle.run_opening.specs.Devices.{device_fault}
use Rattle.load_maker.specs.Load.{load_files, load_images, load_lines}
use Rattle.load_maker.specs.Counts.{counts_of, load_text}
use Rattle.load_maker.specs.Left.{load_counts}
use Rattle.io_edge.specs.FileRequests.{no_notes}
use Rattle.io_edge.specs.WithFiles.{image_with_files, with_files}
use Rattle.run_opening.specs.Images.{file_numbers}
use Rattle.run_command.specs.Seen.{Seen}
use Rattle.run_command.specs.Machines.{journal_entries}
use Rattle.run_command.specs.Paired.{IsRunFault}
use Rattle.run_command.specs.Ends.{RunEnding, run_status, Unbegun, NoneFaulted, RunCaused, DevicesSuffice, RunEnded}

-- ---- the inputs

-- the names of the two images
abbrev pub load_names : List (List ℕ)
load_names = codes "w" ∷ codes "v" ∷ []

-- images under these names, one by one
abbrev pub under_names : List (List ℕ) → List Loaded → List NamedImage
under_names [] images = []
under_names (name ∷ names) [] = []
under_names (name ∷ names) (image ∷ images) = record { name = name; image = image } ∷ under_names names images

-- four processes of the first image
abbrev pub load_first : List ℕ
load_first = 1 ∷ 1 ∷ 1 ∷ 1 ∷ []

-- frames, blocks of swap, and the most instructions
abbrev pub load_numbers : Numbers
load_numbers = record { frames = 128; swap = 8192; limit = 200000 }

-- the inputs of the run of a number
abbrev pub load_inputs : ℕ → Inputs
load_inputs number = record {
  images = under_names load_names (load_images number);
  file_numbers = file_numbers (load_files number) (under_names load_names (load_images number));
  first = load_first;
  lines = load_lines number;
  frames = load_numbers.frames;
  swap_blocks = load_numbers.swap;
  limit = load_numbers.limit;
}

-- ---- the text

-- the six lines that count over the journal where the run is finished, else the line of the fault
abbrev pub load_written : ℕ → List Entry → RunEnding → List ℕ
load_written number journal (Ok done) = load_text number (counts_of 4 journal)
load_written number journal (Err fault) = fault_line fault

-- the six lines of the counts that the number has
abbrev pub finished_lines : ℕ → List ℕ
finished_lines number = load_text number (load_counts number)

-- an ending whose lines need memory
abbrev pub CountsBeLost : RunEnding → Type 0
CountsBeLost (Ok done) = Unit {0}
CountsBeLost (Err fault) = NeedsMemory fault

-- the lines of an ending are written; or, where they could be lost, that of one that found no memory
abbrev pub WritesCounts : ℕ → List Entry → RunEnding → Option (List ℕ) → Option (List ℕ) → ℕ → ℕ → ℕ → Type 0
WritesCounts number journal ending before after old_faults new_faults status =
    Writes before after old_faults new_faults (load_written number journal ending) (run_status ending) status
    ⊎ (CountsBeLost ending × Writes before after old_faults new_faults (fault_line NoMemory) (fault_status NoMemory) status)

-- ---- the ending

-- The cause of an ending: that of a run, over devices that suffice; or a device is too short, or memory lacked first, and nothing was done.
-- A file is never the cause, since the files are in memory; nor is want of swap space for a first process, since the pieces of all find
-- their places.
abbrev pub IsLoadCaused : Seen → List Entry → RunEnding → Type 0
IsLoadCaused seen journal (Err (ShortDevice device blocks needed)) =
    Unbegun seen journal × (device_fault load_numbers.swap seen.zero_blocks seen.one_blocks ≡ Some (ShortDevice device blocks needed))
IsLoadCaused seen journal (Err FileFault) = ⊥
IsLoadCaused seen journal (Err (NoSpace pid)) = ⊥
IsLoadCaused seen journal (Err NoMemory) = Unbegun seen journal ⊎ (NoneFaulted seen × DevicesSuffice load_numbers.swap seen)
IsLoadCaused seen journal ending = RunCaused seen journal ending × DevicesSuffice load_numbers.swap seen

-- How the run ended, where the devices are told. Where a device is short, nothing was done. The files are in memory, and note nothing.
abbrev pub LoadEnded : ℕ → Seen → List Entry → SwapImage → Option SwapImage → RunEnding → Type 0
LoadEnded number seen journal image after (Err (ShortDevice device blocks needed)) = NoneMade journal image after
LoadEnded number seen journal image after ending = RunEnded seen (load_inputs number) journal image after ending

-- so it ended where the devices are told
abbrev pub LoadTold : ℕ → Seen → List Entry → RunEnding → Type 0
LoadTold number seen journal ending =
    (image : SwapImage) → seen.swap_before ≡ Some image
    → LoadEnded number seen journal (image_with_files no_notes image) (with_files no_notes seen.swap_after) ending

-- What a load is: it has one ending and one journal. What was written are the lines of that ending, and the status is the ending's;
-- or the output failed, and a prefix of them was written. However it ended, the journal has no more entries than it may have. The ending
-- has its cause, and no file outside was asked for anything. Where the devices are told the journal is that of a run of the workload of the number, and
-- the devices are left as it says; with status 0 the six lines are those of the counts that the number has; and the status is never 10.
pub record Loads (number : ℕ) (seen : Seen) (status : ℕ) : Type 0 where
  pub ending : RunEnding
  pub journal : List Entry
  pub writes : Writes seen.written_before seen.written_after seen.sink_faults_before seen.sink_faults_after (load_written number journal ending)
      (run_status ending) status
  pub within : length journal ≤ journal_entries
  pub caused : IsLoadCaused seen journal ending
  pub files : NoFaults seen.faults
  pub asked : seen.notes_after ≡ seen.notes_before
  pub told : LoadTold number seen journal ending
  pub counted : (image : SwapImage) → seen.swap_before ≡ Some image → status ≡ 0 → Appends seen.written_before (finished_lines number) seen.written_after
  pub fits : (image : SwapImage) → seen.swap_before ≡ Some image → status ≡ 10 → ⊥

-- it ended as a run does that began, whose files never fail
abbrev pub IsRunEnding : RunEnding → Type 0
IsRunEnding (Err FileFault) = ⊥
IsRunEnding ending = IfErr ending IsRunFault

-- A run of images that were opened, which is counted: the same, for the inputs that are its own, and for those with which it starts.
pub record LoadRuns (IsOf : Inputs → SwapImage → Type 0) (Starts : Inputs → Type 0) (number : ℕ) (seen : Seen) (status : ℕ) : Type 0 where
  pub ending : RunEnding
  pub journal : List Entry
  pub writes : Writes seen.written_before seen.written_after seen.sink_faults_before seen.sink_faults_after (load_written number journal ending)
      (run_status ending) status
  pub within : length journal ≤ journal_entries
  pub caused : RunCaused seen journal ending
  pub began : IsRunEnding ending
  pub space : (A : Inputs) → Starts A → (pid : ℕ) → ending ≡ Err (NoSpace pid) → start_held A ≡ Err pid
  pub ended : (A : Inputs) (image : SwapImage) → IsOf A image → with_files no_notes seen.swap_before ≡ Some image
      → RunEnded seen A journal image (with_files no_notes seen.swap_after) ending
