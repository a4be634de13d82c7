-- The headline, for the words of the command `run`.
use Rattle.std.specs.Prelude.{◌≡◌, ◌⊎◌, ℕ, List, [], ◌++◌, length, Option, Some, Result, Ok, Err}
use Rattle.vm_facts.specs.SwapImages.{SwapImage}
use Rattle.vm_facts.specs.declared.entry.Entry.{Entry}
use Rattle.io_edge.specs.FileHolding.{NamedFile}
use Rattle.io_edge.specs.Octets.{AreOctetFiles}
use Rattle.flat_state.specs.Flat.{Inputs}
use Rattle.flat_model.specs.Asked.{start_held}
use Rattle.run_text.specs.Text.{text_of}
use Rattle.vm_core.specs.Headline.{HeadlineByPolicy, HeadlineOver, HeadlineFull}
use Rattle.command_edge.specs.declared.fault.Fault.{Fault}
use Rattle.command_edge.specs.declared.fault.Fault.TheVariants.{Absent, NotImage, BadSchedule, FileFault, SwapReadFault, SwapWriteFault, NoMemory, JournalFull, NoSpace, ShortDevice}
use Rattle.command_edge.specs.Command.{Faults, OpenFailed, PageFailed, EndCounted, Writes}
use Rattle.command_words.specs.Asked.{Request}
use Rattle.run_opening.specs.Opening.{found_told, EndsOpening}
use Rattle.run_opening.specs.declared.opening.Opening.{Opening}
use Rattle.run_command.specs.Asking.{AsksFor}
use Rattle.run_command.specs.Seen.{CallFaults}
use Rattle.run_command.specs.Paired.{ReadsFail, WritesFail}
use Rattle.run_command.specs.Machines.{journal_entries}
use Rattle.run_command.specs.Ends.{RunEnding, run_status, ending_line}

-- the words ask for inputs of which this is so
pub record OfWords (IsSo : Inputs → Type 0) (request : Request) (files : List NamedFile) : Type 0 where
  pub inputs : Inputs
  pub asks : AsksFor inputs request files
  pub so : IsSo inputs

-- the words ask for no inputs in these files
abbrev pub AskForNothing : Request → List NamedFile → Type 0
AskForNothing request files = (A : Inputs) → AsksFor A request files → ⊥

-- the headline holds of the journal and of what the words ask for
abbrev pub HeadlineOfWords : Request → List NamedFile → List Entry → Type 0
HeadlineOfWords request files journal = OfWords (λ A. HeadlineByPolicy A journal) request files

-- Opening the run ends by this fault, as the files are told and the devices have so many blocks: the first thing met decides.
abbrev pub FailsToOpen : Request → List NamedFile → (zero_blocks one_blocks : ℕ) → Faults → Fault → Type 0
FailsToOpen request files zero_blocks one_blocks faults fault =
    EndsOpening request.schedule request.words request.numbers.swap zero_blocks one_blocks (found_told request.schedule request.words files) faults
    (let r : Result Opening Fault = Err fault in r)

-- What an ending says of the journal. Where it is finished, the headline holds and the run is over. Where a device failed or the
-- journal is full, the headline holds. Where nothing ran, there is no entry: the words ask for nothing in these files, or a device is
-- too short, or a first process's pieces of swap find no place. A file may fail, and memory lack, before the run or in it.
abbrev pub Says : Request → List NamedFile → (zero_blocks one_blocks : ℕ) → Faults → List Entry → RunEnding → Type 0
Says request files zero_blocks one_blocks faults journal (Ok done) = OfWords (λ A. HeadlineOver A journal) request files
Says request files zero_blocks one_blocks faults journal (Err (Absent name)) =
    (journal ≡ []) × AskForNothing request files × FailsToOpen request files zero_blocks one_blocks faults (Absent name)
Says request files zero_blocks one_blocks faults journal (Err (NotImage name reason)) =
    (journal ≡ []) × AskForNothing request files × FailsToOpen request files zero_blocks one_blocks faults (NotImage name reason)
Says request files zero_blocks one_blocks faults journal (Err (BadSchedule line)) =
    (journal ≡ []) × AskForNothing request files × FailsToOpen request files zero_blocks one_blocks faults (BadSchedule line)
Says request files zero_blocks one_blocks faults journal (Err (ShortDevice device blocks needed)) =
    (journal ≡ []) × FailsToOpen request files zero_blocks one_blocks faults (ShortDevice device blocks needed)
Says request files zero_blocks one_blocks faults journal (Err (NoSpace pid)) = (journal ≡ []) × OfWords (λ A. start_held A ≡ Err pid) request files
Says request files zero_blocks one_blocks faults journal (Err FileFault) =
    ((journal ≡ []) × OpenFailed faults) ⊎ (HeadlineOfWords request files journal × PageFailed faults)
Says request files zero_blocks one_blocks faults journal (Err NoMemory) = (journal ≡ []) ⊎ HeadlineOfWords request files journal
Says request files zero_blocks one_blocks faults journal (Err (SwapReadFault device)) = HeadlineOfWords request files journal
Says request files zero_blocks one_blocks faults journal (Err (SwapWriteFault device)) = HeadlineOfWords request files journal
Says request files zero_blocks one_blocks faults journal (Err JournalFull) =
    OfWords (λ A. HeadlineFull A journal) request files × (length journal ≡ journal_entries)
Says request files zero_blocks one_blocks faults journal (Err _) = ⊥

-- The calls that failed are those that the ending names: one of a file, one read of this device, or one write of it; at any other ending none.
pub record FailsAs (ending : RunEnding) (f : CallFaults) : Type 0 where
  pub files : EndCounted ending f.files
  pub reads : ReadsFail ending f.reads
  pub writes : WritesFail ending f.writes

-- What was written is the transcript of a journal, then the line of the ending, with its status; or the output failed, and a prefix
-- of that was written. The calls that failed are those that the ending names. Where files and devices are told, the journal is one of which
-- the ending says what is so. It goes by the files, by the images and blocks of both devices, by the output and its faults before and after,
-- and by the counts of failed calls.
pub record CarriesHeadline (request : Request) (files : Option (List NamedFile)) (zero one : Option SwapImage) (zero_blocks one_blocks : ℕ)
    (written_before written_after : Option (List ℕ)) (faults_before faults_after : ℕ) (faults : CallFaults) (status : ℕ) : Type 0 where
  pub journal : List Entry
  pub ending : RunEnding
  pub writes : Writes written_before written_after faults_before faults_after (text_of request.traced journal ++ ending_line ending) (run_status ending) status
  pub failed : FailsAs ending faults
  pub told : (holds : List NamedFile) (zero_image one_image : SwapImage) → files ≡ Some holds → AreOctetFiles holds → zero ≡ Some zero_image
      → one ≡ Some one_image → Says request holds zero_blocks one_blocks faults.files journal ending
