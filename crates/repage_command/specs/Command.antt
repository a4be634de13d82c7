-- How judging a trace ends, by what is read, and what is written.
use Rattle.std.specs.Prelude.{◌≡◌, ℕ, List, [], length, take, Option, Result, Ok, Err}
use Rattle.io_edge.specs.FileHolding.{NamedFile}
use Rattle.flat_state.specs.Flat.{Inputs}
use Rattle.flat_model.specs.Asked.{start_held}
use Rattle.command_edge.specs.ImageWords.{image_names, first_images}
use Rattle.replay_check.specs.Images.{FlatFile}
use Rattle.paged_model.specs.declared.line.Line.{Line}
use Rattle.paged_model.specs.Traces.{IsPagedTrace}
use Rattle.paged_model.specs.declared.reason.Misstep.{Misstep}
use Rattle.repage_check.specs.Verdicts.{HasMisstep}
use Rattle.command_words.specs.declared.command.Numbers.{Numbers}
use Rattle.command_edge.specs.declared.fault.Fault.{Fault}
use Rattle.command_edge.specs.declared.fault.Fault.TheVariants.{NoSpace, NotPaged}
use Rattle.command_edge.specs.Ending.{Ending}
use Rattle.command_edge.specs.Command.{Faults, NoFaults, Completes}
use Rattle.replay_command.specs.Reading.{Read, read_of_transcript}
use Rattle.question_command.specs.InMemory.{inputs_with}
use Rattle.repage_command.specs.declared.judging.Repaged.{Repaged}
use Rattle.repage_command.specs.Telling.{paged_line}
use Rattle.repage_command.specs.Judging.{TellsRepaged, TellsOwners}
use Rattle.repage_command.specs.Reading.{HasFew, LacksCase}

-- This is so of the inputs that were read, with frames and blocks of swap of these numbers, and of the lines of the trace.
pub record IsSoOfLines (numbers : Numbers) (words : List (List ℕ)) (read : Read) (So : Inputs → List Line → Type 0) : Type 0 where
  pub lines : List Line
  pub has : HasFew read.transcript lines
  pub images : List FlatFile
  pub are : read.images ≡ Ok images
  pub so : So (inputs_with numbers images (first_images (image_names words) words) []) lines

-- the lines are a run of the paged machine, and the output says so
abbrev pub SaysPaged : List ℕ → Inputs → List Line → Type 0
SaysPaged output A ls = IsPagedTrace A ls × (output ≡ paged_line (length ls))

-- this line is the first that can't come
abbrev pub FailsAt : ℕ → Inputs → List Line → Type 0
FailsAt line A ls = (misstep : Misstep) × HasMisstep A ls misstep × (line ≡ misstep.line)

-- the pieces of swap of this first process find no place
abbrev pub LacksPlace : ℕ → Inputs → List Line → Type 0
LacksPlace pid A ls = start_held A ≡ Err pid

-- why there is no verdict
abbrev pub LacksVerdict : Numbers → List ℕ → List (List ℕ) → Read → Faults → Fault → Type 0
LacksVerdict numbers name words read f (NoSpace pid) = NoFaults f × IsSoOfLines numbers words read (LacksPlace pid)
LacksVerdict numbers name words read f fault = LacksCase name read f fault

-- how reading and judging it ends
abbrev pub EndsReading : Numbers → List ℕ → List (List ℕ) → Read → Faults → Result Repaged Fault → Type 0
EndsReading numbers name words read f (Ok repaged) = NoFaults f × IsSoOfLines numbers words read (λ A ls. TellsRepaged A ls repaged)
EndsReading numbers name words read f (Err fault) = LacksVerdict numbers name words read f fault

-- how the command ends
abbrev pub EndsRepage : Numbers → List ℕ → List (List ℕ) → Read → Faults → Ending → Type 0
EndsRepage numbers name words read f (Ok output) = NoFaults f × IsSoOfLines numbers words read (SaysPaged output)
EndsRepage numbers name words read f (Err (NotPaged line)) = NoFaults f × IsSoOfLines numbers words read (FailsAt line)
EndsRepage numbers name words read f (Err fault) = LacksVerdict numbers name words read f fault

-- judging the trace of this name over the images of these words, with frames and blocks of swap of these numbers
abbrev pub Repages : Numbers → List ℕ → List (List ℕ) → Option (List NamedFile) → Faults → Option (List ℕ) → Option (List ℕ) → ℕ → ℕ → ℕ → Type 0
Repages numbers name words holds f before after old_faults new_faults status =
    Completes (EndsRepage numbers name words) (read_of_transcript name words) holds f before after old_faults new_faults status

-- Who owns what.

-- so many first lines aren't a run: this line is the first that can't come
abbrev pub FrontFailsAt : ℕ → ℕ → Inputs → List Line → Type 0
FrontFailsAt wanted line A ls = (misstep : Misstep) × HasMisstep A (take wanted ls) misstep × (line ≡ misstep.line)

-- how telling who owns what after so many lines ends
abbrev pub EndsOwners : ℕ → Numbers → List ℕ → List (List ℕ) → Read → Faults → Ending → Type 0
EndsOwners wanted numbers name words read f (Ok output) = NoFaults f × IsSoOfLines numbers words read (λ A ls. TellsOwners A ls wanted output)
EndsOwners wanted numbers name words read f (Err (NotPaged line)) = NoFaults f × IsSoOfLines numbers words read (FrontFailsAt wanted line)
EndsOwners wanted numbers name words read f (Err fault) = LacksVerdict numbers name words read f fault

-- telling it of the trace of this name
abbrev pub TellsWhose : ℕ → Numbers → List ℕ → List (List ℕ) → Option (List NamedFile) → Faults → Option (List ℕ) → Option (List ℕ) → ℕ → ℕ → ℕ → Type 0
TellsWhose wanted numbers name words holds f before after old_faults new_faults status =
    Completes (EndsOwners wanted numbers name words) (read_of_transcript name words) holds f before after old_faults new_faults status
