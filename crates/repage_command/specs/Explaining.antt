-- What is told of a trace that isn't a run of the paged machine.
use Rattle.std.specs.Prelude.{◌≡◌, ℕ, List, Option, Some, None, Err}
use Rattle.io_edge.specs.FileHolding.{NamedFile}
use Rattle.flat_state.specs.Flat.{Inputs}
use Rattle.paged_model.specs.declared.line.Line.{Line}
use Rattle.paged_model.specs.Traces.{IsPagedTrace}
use Rattle.command_words.specs.declared.command.Numbers.{Numbers}
use Rattle.command_edge.specs.declared.fault.Fault.{Fault}
use Rattle.command_edge.specs.Command.{Faults, Made}
use Rattle.replay_command.specs.Reading.{Read, read_of_transcript}
use Rattle.repage_command.specs.Judging.{TellsMisstep}
use Rattle.repage_command.specs.Command.{IsSoOfLines, EndsReading}

-- nothing is told of a run, and else of the first line that can't come why
abbrev pub TellsWhy : Option (List ℕ) → Inputs → List Line → Type 0
TellsWhy None A ls = IsPagedTrace A ls
TellsWhy (Some why) A ls = (line : ℕ) × TellsMisstep A ls line why

-- What is told of the trace of this name over the images of these words, by what is read.
pub record ExplainsRepage (numbers : Numbers) (name : List ℕ) (words : List (List ℕ)) (holds : Option (List NamedFile)) (text : Option (List ℕ)) : Type 0 where
  pub read : Read
  pub is_told : (files : List NamedFile) → holds ≡ Some files → read ≡ read_of_transcript name words files
  pub told : IsSoOfLines numbers words read (TellsWhy text)

-- nothing is told: judging ended with this fault
abbrev pub LacksWhy : Numbers → List ℕ → List (List ℕ) → Option (List NamedFile) → Faults → Fault → Type 0
LacksWhy numbers name words holds f fault = Made (EndsReading numbers name words) (read_of_transcript name words) holds f (Err fault)
