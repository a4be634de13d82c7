-- What words do where files, swap devices and output are in memory, and tell what they hold: what is told, without a premise.
use Rattle.std.specs.Prelude.{◌≡◌, ◌≤◌, ℕ, List, [], ◌++◌, length, Option, Some, None}
use Rattle.vm_facts.specs.SwapImages.{SwapImage}
use Rattle.io_edge.specs.FileRequests.{no_notes}
use Rattle.io_edge.specs.WithFiles.{image_with_files, with_files}
use Rattle.io_edge.specs.FileHolding.{NamedFile}
use Rattle.io_edge.specs.Striping.{pair_blocks, images_paired}
use Rattle.io_edge.specs.Written.{Appends}
use Rattle.vm_facts.specs.declared.entry.Entry.{Entry}
use Rattle.run_text.specs.Text.{text_of}
use Rattle.command_edge.specs.Told.{bytes_told, image_told}
use Rattle.command_words.specs.Asked.{Asked, Run, Load, Replay, Assemble, Show, Optimum, Curve, Owners, Film, Stats, References, Grade, Repage, RepageOwners, Policies, Request}
use Rattle.command_edge.specs.Ending.{Ending as CommandEnding}
use Rattle.command_edge.specs.Command.{Faults, Writes, WritesEnding}
use Rattle.source_commands.specs.Command.{source_bytes, EndsAssembly, EndsListing}
use Rattle.replay_command.specs.Reading.{read_of_transcript as replay_told}
use Rattle.replay_command.specs.Command.{EndsReplay}
use Rattle.question_command.specs.Seen.{CallFaults, Seen}
use Rattle.question_command.specs.Machines.{journal_entries}
use Rattle.question_command.specs.Paired.{image_together}
use Rattle.question_command.specs.Headlines.{Says, FailsAs}
use Rattle.question_command.specs.RunCommandEnds.{RunEnding, run_status, ending_line, Writing, IsCaused, IsJudged, EndsTold}
use Rattle.question_command.specs.Loads.{load_written, finished_lines, IsLoadCaused, LoadEnded}
use Rattle.question_command.specs.Question.{Question}
use Rattle.question_command.specs.Question.TheVariants as questions
use Rattle.question_command.specs.Reading.{read_told}
use Rattle.question_command.specs.Answering.{blank_swap}
use Rattle.question_command.specs.Asking.{Subject}
use Rattle.question_command.specs.Ends.{EndsQuestion}
use Rattle.grade_command.specs.Reading.{trace_told}
use Rattle.grade_command.specs.Command.{EndsGrade}
use Rattle.repage_command.specs.Command.{EndsRepage, EndsOwners}
use Rattle.reference_answers.specs.Command.{EndsPolicies, references_told}
use Rattle.vm_run.specs.Obeying.{Obeys}

-- the swap image that two devices make together to which nothing was written
abbrev pub blank_pair : ℕ → ℕ → SwapImage
blank_pair zero_blocks one_blocks = images_paired (pair_blocks zero_blocks one_blocks) (blank_swap zero_blocks) (blank_swap one_blocks)

-- What is seen of these files, which note nothing, and two blank devices, which never fail, and of an output that was empty.
abbrev pub seen_of : List NamedFile → ℕ → ℕ → Option SwapImage → Option (List ℕ) → ℕ → Seen
seen_of files zero_blocks one_blocks swap written faults = record {
  files = Some files;
  faults = record { open_before = 0; open_after = 0; page_before = 0; page_after = 0 };
  notes_before = no_notes;
  notes_after = no_notes;
  zero_blocks = zero_blocks;
  one_blocks = one_blocks;
  swap_before = Some (blank_pair zero_blocks one_blocks);
  swap_after = swap;
  reads = record { zero_before = 0; zero_after = 0; one_before = 0; one_after = 0 };
  writes = record { zero_before = 0; zero_after = 0; one_before = 0; one_after = 0 };
  written_before = Some [];
  written_after = written;
  sink_faults_before = 0;
  sink_faults_after = faults;
}

-- a run, whose files and swap image are told
pub record RunsTold (request : Request) (seen : Seen) (files : List NamedFile) (image : SwapImage) (status : ℕ) : Type 0 where
  pub ending : RunEnding
  pub journal : List Entry
  pub writes : Writing request.traced seen journal ending status
  pub within : length journal ≤ journal_entries
  pub caused : IsCaused request seen journal ending
  pub judged : IsJudged request seen files ending
  pub told : EndsTold request seen files journal image ending

-- a load, whose swap image is told
pub record LoadsTold (number : ℕ) (seen : Seen) (image : SwapImage) (status : ℕ) : Type 0 where
  pub ending : RunEnding
  pub journal : List Entry
  pub writes : Writes seen.written_before seen.written_after seen.sink_faults_before seen.sink_faults_after (load_written number journal ending)
      (run_status ending) status
  pub within : length journal ≤ journal_entries
  pub caused : IsLoadCaused seen journal ending
  pub told : LoadEnded number seen journal (image_with_files no_notes image) (with_files no_notes seen.swap_after) ending
  pub counted : status ≡ 0 → Appends seen.written_before (finished_lines number) seen.written_after

-- another command, by what it reads in the files
pub record CompletesTold {R : Type 0} (Ends : R → Faults → CommandEnding → Type 0) (read : R) (seen : Seen) (status : ℕ) : Type 0 where
  pub ending : CommandEnding
  pub ends : Ends read seen.faults ending
  pub writes : WritesEnding seen.written_before seen.written_after seen.sink_faults_before seen.sink_faults_after ending status

-- a question about a run
abbrev pub AnswersTold : Question → Subject → Seen → List NamedFile → ℕ → Type 0
AnswersTold question subject seen files status = CompletesTold (EndsQuestion question subject) (read_told subject.schedule subject.words files) seen status

-- a trace that is graded
abbrev pub GradesTold : Subject → List ℕ → Seen → List NamedFile → ℕ → Type 0
GradesTold subject trace seen files status = CompletesTold (EndsGrade subject trace) (trace_told subject trace files) seen status

-- The words are none of a command, and the line that says so was written; or they ask for a command, and it did what it is for.
abbrev pub ObeysTold : Option Asked → Seen → List NamedFile → SwapImage → ℕ → Type 0
ObeysTold None seen files image status = Obeys None seen status
ObeysTold (Some (Run traced numbers schedule images)) seen files image status =
    RunsTold (record { traced = traced; numbers = numbers; schedule = schedule; words = images }) seen files image status
ObeysTold (Some (Load number)) seen files image status = LoadsTold number seen image status
ObeysTold (Some (Replay transcript images)) seen files image status =
    CompletesTold (EndsReplay transcript images) (replay_told transcript images files) seen status
ObeysTold (Some (Assemble source)) seen files image status = CompletesTold (EndsAssembly source) (bytes_told files source source_bytes) seen status
ObeysTold (Some (Show image_name)) seen files image status = CompletesTold (EndsListing image_name) (image_told files image_name) seen status
ObeysTold (Some (Optimum size numbers schedule images)) seen files image status =
    AnswersTold (questions.Optimum size) (record { numbers = numbers; schedule = schedule; words = images }) seen files status
ObeysTold (Some (Curve numbers schedule images)) seen files image status =
    AnswersTold questions.Curve (record { numbers = numbers; schedule = schedule; words = images }) seen files status
ObeysTold (Some (Owners entries numbers schedule images)) seen files image status =
    AnswersTold (questions.Owners entries) (record { numbers = numbers; schedule = schedule; words = images }) seen files status
ObeysTold (Some (Film steps numbers schedule images)) seen files image status =
    AnswersTold (questions.Film steps) (record { numbers = numbers; schedule = schedule; words = images }) seen files status
ObeysTold (Some (Stats numbers schedule images)) seen files image status =
    AnswersTold questions.Stats (record { numbers = numbers; schedule = schedule; words = images }) seen files status
ObeysTold (Some (References numbers schedule images)) seen files image status =
    AnswersTold questions.References (record { numbers = numbers; schedule = schedule; words = images }) seen files status
ObeysTold (Some (Grade numbers schedule trace images)) seen files image status =
    GradesTold (record { numbers = numbers; schedule = schedule; words = images }) trace seen files status
ObeysTold (Some (Repage numbers trace images)) seen files image status =
    CompletesTold (EndsRepage numbers trace images) (replay_told trace images files) seen status
ObeysTold (Some (RepageOwners entries numbers trace images)) seen files image status =
    CompletesTold (EndsOwners entries numbers trace images) (replay_told trace images files) seen status
ObeysTold (Some (Policies comparison references)) seen files image status =
    CompletesTold (EndsPolicies comparison references) (references_told references files) seen status

-- words over these files and two blank devices leave this on the devices and the output, with this status
abbrev pub DoesInMemory : Option Asked → List NamedFile → ℕ → ℕ → Option SwapImage → Option SwapImage → Option (List ℕ) → ℕ → ℕ → Type 0
DoesInMemory asked files zero_blocks one_blocks zero one written faults status =
    ObeysTold asked (seen_of files zero_blocks one_blocks (image_together zero_blocks one_blocks zero one) written faults) files
    (blank_pair zero_blocks one_blocks) status

-- no call of a file or a device failed
abbrev pub none_failed : CallFaults
none_failed = record {
  files = record { open_before = 0; open_after = 0; page_before = 0; page_after = 0 };
  reads = record { zero_before = 0; zero_after = 0; one_before = 0; one_after = 0 };
  writes = record { zero_before = 0; zero_after = 0; one_before = 0; one_after = 0 };
}

-- The headline, of a run whose files and devices are in memory, and of an output that was empty: the text of a journal was written, then
-- the line of the ending, of which the ending says what is so; or the output failed, and a prefix of that was written. No call of a file or a
-- device failed.
pub record HeadlineTold (request : Request) (files : List NamedFile) (zero_blocks one_blocks : ℕ) (written : Option (List ℕ)) (faults status : ℕ) : Type 0 where
  pub journal : List Entry
  pub ending : RunEnding
  pub writes : Writes (Some []) written 0 faults (text_of request.traced journal ++ ending_line ending) (run_status ending) status
  pub failed : FailsAs ending none_failed
  pub says : Says request files zero_blocks one_blocks none_failed.files journal ending

-- the same of words, where they ask for a run
abbrev pub HeadlineInMemory : Option Request → List NamedFile → ℕ → ℕ → Option (List ℕ) → ℕ → ℕ → Type 0
HeadlineInMemory None files zero_blocks one_blocks written faults status = Unit {0}
HeadlineInMemory (Some request) files zero_blocks one_blocks written faults status = HeadlineTold request files zero_blocks one_blocks written faults status
