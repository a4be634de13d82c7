-- How a run ends, status by status, and what it writes at each.
use Rattle.std.specs.Prelude.{◌≡◌, ◌⊎◌, ◌≤◌, ℕ, Bool, List, [], ◌++◌, length, Option, Some, None, Result, Ok, Err}
use Rattle.vm_facts.specs.SwapImages.{SwapImage}
use Rattle.vm_facts.specs.declared.entry.Entry.{Entry}
use Rattle.vm_facts.specs.declared.stop.Stop.TheVariants as stops
use Rattle.io_edge.specs.FileHolding.{NamedFile}
use Rattle.io_edge.specs.FileRequests.{FileNotes}
use Rattle.io_edge.specs.WithFiles.{image_with_files, with_files}
use Rattle.flat_state.specs.Flat.{Inputs}
use Rattle.flat_model.specs.Asked.{start_held}
use Rattle.run_text.specs.Text.{text_of}
use Rattle.run_text.specs.Transcript.{HaveNumbers}
use Rattle.replay_command.specs.Replayed.{IsFlatText}
use Rattle.vm_core.specs.Lawful.{RunFinished, RunHalted, RunStarved}
use Rattle.vm_core.specs.RunEnds.{NoneMade}
use Rattle.command_edge.specs.declared.fault.Fault.{Fault}
use Rattle.command_edge.specs.declared.fault.Fault.TheVariants.{Absent, NotImage, BadSchedule, FileFault, SwapReadFault, SwapWriteFault, NoMemory, JournalFull, NoSpace, ShortDevice}
use Rattle.command_edge.specs.Ending.{fault_status, fault_line, NeedsMemory}
use Rattle.command_edge.specs.Command.{NoFaults, OpenFailed, PageFailed, Writes}
use Rattle.run_opening.specs.Devices.{device_fault}
use Rattle.run_opening.specs.Opening.{found_told, HasAll, EndsOpening}
use Rattle.run_opening.specs.Asked.{AsksOpening}
use Rattle.command_edge.specs.ImageWords.{image_names}
use Rattle.run_opening.specs.declared.opening.Opening.{Opening}
use Rattle.io_edge.specs.Octets.{AreOctetFiles}
use Rattle.command_words.specs.Asked.{Request}
use Rattle.run_command.specs.Asking.{AsksFor}
use Rattle.run_command.specs.Seen.{Seen, NoneFailed, DeviceFailed, stores_after}
use Rattle.run_command.specs.Machines.{journal_entries}

-- a run is finished, or this is why it isn't
abbrev pub RunEnding : Type 0
RunEnding = Result (Unit {0}) Fault

-- the status of an ending: 0 where the run is finished, or else the fault's
abbrev pub run_status : RunEnding → ℕ
run_status (Ok done) = 0
run_status (Err fault) = fault_status fault

-- the line after the transcript; none where the run is finished
abbrev pub ending_line : RunEnding → List ℕ
ending_line (Ok done) = []
ending_line (Err fault) = fault_line fault

-- Causes, whether or not files and devices are told.

-- nothing was done: there is no entry, and the swap is as it was
pub record NothingDone (seen : Seen) (journal : List Entry) : Type 0 where
  pub journal_is : journal ≡ []
  pub swap : seen.swap_after ≡ seen.swap_before
  pub reads : NoneFailed seen.reads
  pub writes : NoneFailed seen.writes

-- nor did a file fail
pub record Unbegun (seen : Seen) (journal : List Entry) : Type 0 where
  pub nothing : NothingDone seen journal
  pub files : NoFaults seen.faults

-- no call failed
pub record NoneFaulted (seen : Seen) : Type 0 where
  pub files : NoFaults seen.faults
  pub reads : NoneFailed seen.reads
  pub writes : NoneFailed seen.writes

-- one read of a file failed after its first bytes, and no other call
pub record PageFailedAlone (seen : Seen) : Type 0 where
  pub page : PageFailed seen.faults
  pub reads : NoneFailed seen.reads
  pub writes : NoneFailed seen.writes

-- one read of this device failed, and no other call, of this device or another
pub record ReadFailedAlone (device : ℕ) (seen : Seen) : Type 0 where
  pub files : NoFaults seen.faults
  pub read : DeviceFailed device seen.reads
  pub writes : NoneFailed seen.writes

-- one write of this device failed, and no other call, of this device or another
pub record WriteFailedAlone (device : ℕ) (seen : Seen) : Type 0 where
  pub files : NoFaults seen.faults
  pub reads : NoneFailed seen.reads
  pub write : DeviceFailed device seen.writes

-- why a run that may have begun isn't finished
abbrev pub HaltCaused : Seen → List Entry → Fault → Type 0
HaltCaused seen journal (NoSpace pid) = Unbegun seen journal
HaltCaused seen journal FileFault = PageFailedAlone seen
HaltCaused seen journal (SwapReadFault device) = ReadFailedAlone device seen
HaltCaused seen journal (SwapWriteFault device) = WriteFailedAlone device seen
HaltCaused seen journal JournalFull = NoneFaulted seen × (length journal ≡ journal_entries)
HaltCaused seen journal NoMemory = NoneFaulted seen
HaltCaused seen journal _ = ⊥

-- the cause of the ending of a run that may have begun
abbrev pub RunCaused : Seen → List Entry → RunEnding → Type 0
RunCaused seen journal (Ok done) = NoneFaulted seen
RunCaused seen journal (Err fault) = HaltCaused seen journal fault

-- the devices have as many blocks as a swap of so many needs of them
abbrev pub DevicesSuffice : ℕ → Seen → Type 0
DevicesSuffice swap seen = device_fault swap seen.zero_blocks seen.one_blocks ≡ None

-- a file failed before the run
abbrev pub FailsBefore : Seen → List Entry → Type 0
FailsBefore seen journal = OpenFailed seen.faults × NothingDone seen journal

-- the ending has its cause in what the run saw and in its journal
abbrev pub IsCaused : Request → Seen → List Entry → RunEnding → Type 0
IsCaused request seen journal (Err (Absent name)) = Unbegun seen journal
IsCaused request seen journal (Err (NotImage name reason)) = Unbegun seen journal
IsCaused request seen journal (Err (BadSchedule line)) = Unbegun seen journal
IsCaused request seen journal (Err (ShortDevice device blocks needed)) =
    Unbegun seen journal × (device_fault request.numbers.swap seen.zero_blocks seen.one_blocks ≡ Some (ShortDevice device blocks needed))
IsCaused request seen journal (Err FileFault) = FailsBefore seen journal ⊎ (HaltCaused seen journal FileFault × DevicesSuffice request.numbers.swap seen)
IsCaused request seen journal (Err NoMemory) = Unbegun seen journal ⊎ (RunCaused seen journal (Err NoMemory) × DevicesSuffice request.numbers.swap seen)
IsCaused request seen journal ending = RunCaused seen journal ending × DevicesSuffice request.numbers.swap seen

-- What is judged before the run, where the files are told: the schedule, then the images in their order, then the devices; the first
-- thing met decides.

-- all of it is good
pub record AllGood (request : Request) (seen : Seen) (files : List NamedFile) : Type 0 where
  pub found : HasAll (found_told request.schedule request.words files)
  pub devices : DevicesSuffice request.numbers.swap seen

-- opening the run ends by this fault, as the files are told and the devices have so many blocks
abbrev pub EndsUnopened : Request → Seen → List NamedFile → Fault → Type 0
EndsUnopened request seen files fault =
    EndsOpening request.schedule request.words request.numbers.swap seen.zero_blocks seen.one_blocks
    (found_told request.schedule request.words files) seen.faults (let r : Result Opening Fault = Err fault in r)

-- the ending is one that fits what is judged before the run: the told files, and then the devices
abbrev pub IsJudged : Request → Seen → List NamedFile → RunEnding → Type 0
IsJudged request seen files (Err (Absent name)) = EndsUnopened request seen files (Absent name)
IsJudged request seen files (Err (NotImage name reason)) = EndsUnopened request seen files (NotImage name reason)
IsJudged request seen files (Err (BadSchedule line)) = EndsUnopened request seen files (BadSchedule line)
IsJudged request seen files (Err (ShortDevice device blocks needed)) = EndsUnopened request seen files (ShortDevice device blocks needed)
IsJudged request seen files (Err FileFault) = OpenFailed seen.faults ⊎ (PageFailed seen.faults × AllGood request seen files)
IsJudged request seen files (Err NoMemory) = NoneFaulted seen ⊎ AllGood request seen files
IsJudged request seen files ending = AllGood request seen files

-- The run, where files and devices are told.

-- it halted by this fault, which isn't want of memory
abbrev pub FaultEnded : Inputs → List Entry → SwapImage → Option SwapImage → Fault → Type 0
FaultEnded A journal image after FileFault = RunHalted A journal stops.FileFault image after
FaultEnded A journal image after (SwapReadFault device) = RunHalted A journal stops.SwapReadFault image after
FaultEnded A journal image after (SwapWriteFault device) = RunHalted A journal stops.SwapWriteFault image after
FaultEnded A journal image after JournalFull = RunHalted A journal stops.JournalFull image after
FaultEnded A journal image after (NoSpace pid) = NoneMade journal image after × (start_held A ≡ Err pid)
FaultEnded A journal image after _ = ⊥

-- Want of memory may come at any place, before anything was done too, but in place of no failed call.
abbrev pub RunEnded : Seen → Inputs → List Entry → SwapImage → Option SwapImage → RunEnding → Type 0
RunEnded seen A journal image after (Ok done) = RunFinished A journal image after
RunEnded seen A journal image after (Err NoMemory) = NoneFaulted seen × (NoneMade journal image after ⊎ RunStarved A journal image after)
RunEnded seen A journal image after (Err fault) = FaultEnded A journal image after fault

-- Its schedule and its images were opened, each header by one read. From there on it ended so, for inputs that the words ask for, and of
-- files and swap just that was asked which its journal says. A judge of transcripts accepts the text of its journal over the images of
-- these inputs, with the trace of the paging and without.
pub record RunOfWords (request : Request) (seen : Seen) (files : List NamedFile) (journal : List Entry) (image : SwapImage) (ending : RunEnding) : Type 0 where
  pub inputs : Inputs
  pub asks : AsksFor inputs request files
  pub opening : Opening
  pub opened : FileNotes
  pub opens : AsksOpening request.schedule (image_names request.words) (Some files) (Ok opening) seen.notes_before opened
  pub ended : RunEnded seen inputs journal (image_with_files opened image) (stores_after seen) ending
  pub replayed : (traced : Bool) → IsFlatText inputs traced journal

-- Nothing was done but that a schedule and images were to be opened, which ended by this fault: they were asked for up to there.
pub record EndsOpened (request : Request) (seen : Seen) (files : List NamedFile) (journal : List Entry) (image : SwapImage) (fault : Fault) : Type 0 where
  pub none : NoneMade journal image seen.swap_after
  pub opens : AsksOpening request.schedule (image_names request.words) (Some files) (let r : Result Opening Fault = Err fault in r) seen.notes_before
      seen.notes_after

-- For want of memory nothing was done: no file was asked, or they were to be opened, whatever fault ended that.
abbrev pub EndsLacking : Request → Seen → List NamedFile → List Entry → SwapImage → Type 0
EndsLacking request seen files journal image =
    (NoneMade journal image seen.swap_after × (seen.notes_after ≡ seen.notes_before))
    ⊎ ((fault : Fault) × EndsOpened request seen files journal image fault)

-- A file failed: before the run, and nothing was done; or in the run, and then all that is judged before it was good, and the run halted
-- there.
abbrev pub FileFaultTold : Request → Seen → List NamedFile → List Entry → SwapImage → Type 0
FileFaultTold request seen files journal image =
    (FailsBefore seen journal × EndsOpened request seen files journal image FileFault)
    ⊎ (PageFailed seen.faults × AllGood request seen files × RunOfWords request seen files journal image (Err FileFault))

-- where files and devices are told: nothing was done, or the ending is that of a run which the words ask for
abbrev pub EndsTold : Request → Seen → List NamedFile → List Entry → SwapImage → RunEnding → Type 0
EndsTold request seen files journal image (Err (Absent name)) = EndsOpened request seen files journal image (Absent name)
EndsTold request seen files journal image (Err (NotImage name reason)) = EndsOpened request seen files journal image (NotImage name reason)
EndsTold request seen files journal image (Err (BadSchedule line)) = EndsOpened request seen files journal image (BadSchedule line)
EndsTold request seen files journal image (Err (ShortDevice device blocks needed)) = EndsOpened request seen files journal image
    (ShortDevice device blocks needed)
EndsTold request seen files journal image (Err FileFault) = FileFaultTold request seen files journal image
EndsTold request seen files journal image (Err NoMemory) =
    (Unbegun seen journal × EndsLacking request seen files journal image) ⊎ RunOfWords request seen files journal image (Err NoMemory)
EndsTold request seen files journal image ending = RunOfWords request seen files journal image ending

-- Whole runs.

-- an ending whose line needs memory
abbrev pub CanBeLost : RunEnding → Type 0
CanBeLost (Ok done) = ⊥
CanBeLost (Err fault) = NeedsMemory fault

-- a run is written as it ended; or, where its line could be lost, as one that found no memory
abbrev pub WritesRun : Bool → List Entry → RunEnding → Option (List ℕ) → Option (List ℕ) → ℕ → ℕ → ℕ → Type 0
WritesRun traced journal ending before after old_faults new_faults status =
    Writes before after old_faults new_faults (text_of traced journal ++ ending_line ending) (run_status ending) status
    ⊎ (CanBeLost ending × Writes before after old_faults new_faults (text_of traced journal ++ fault_line NoMemory) (fault_status NoMemory) status)

-- the text of the journal and the line of the ending were written, with its status; or the output failed, and a prefix was
abbrev pub Writing : Bool → Seen → List Entry → RunEnding → ℕ → Type 0
Writing traced seen journal ending status =
    Writes seen.written_before seen.written_after seen.sink_faults_before seen.sink_faults_after (text_of traced journal ++ ending_line ending)
    (run_status ending) status

-- What a run is: it has one ending and one journal. What was written is the text of the journal and the line of the ending, and the
-- status is the ending's; or the output failed, and a prefix of that was written. However it ended, the journal has no more entries than
-- it may have. The ending has its cause. Where the files are told,
-- the first thing met decides before the run; and where the devices are told too, the journal is that of a run of the inputs that the
-- words ask for, and the swap devices are left as it says, with what it asked of them.
pub record Runs (request : Request) (seen : Seen) (status : ℕ) : Type 0 where
  pub ending : RunEnding
  pub journal : List Entry
  pub writes : Writing request.traced seen journal ending status
  pub within : length journal ≤ journal_entries
  pub caused : IsCaused request seen journal ending
  pub judged : (files : List NamedFile) → seen.files ≡ Some files → IsJudged request seen files ending
  pub told : (files : List NamedFile) (image : SwapImage) → seen.files ≡ Some files → AreOctetFiles files → seen.swap_before ≡ Some image
      → EndsTold request seen files journal image ending

-- A run that was opened, over a machine: the same, for the inputs that are the machine's, with what the files had noted by then. Its entries
-- are at hand.
pub record RunsOpened (IsOf : Inputs → SwapImage → Type 0) (opened : FileNotes) (traced : Bool) (seen : Seen) (status : ℕ) : Type 0 where
  pub ending : RunEnding
  pub journal : List Entry
  pub writes : Writing traced seen journal ending status
  pub within : length journal ≤ journal_entries
  pub caused : RunCaused seen journal ending
  pub numbers : HaveNumbers journal
  pub ended : (A : Inputs) (image : SwapImage) → IsOf A image → with_files opened seen.swap_before ≡ Some image → RunEnded seen A journal image
      (stores_after seen) ending
