-- What is told of a run that its limit cut.
use Rattle.std.specs.Prelude.{◌≡◌, ℕ, List, [], Option, Some, None, Err}
use Rattle.io_edge.specs.FileHolding.{NamedFile}
use Rattle.command_edge.specs.declared.fault.Fault.{Fault}
use Rattle.command_edge.specs.Command.{Faults, Made}
use Rattle.reference_commands.specs.declared.question.Question.TheVariants.{WasCut}
use Rattle.reference_commands.specs.Reading.{Read, read_told}
use Rattle.reference_commands.specs.Asking.{Subject}
use Rattle.reference_commands.specs.Ends.{IsAnswered, EndsQuestion}

-- what is told, and no byte where nothing is
abbrev pub told_text : Option (List ℕ) → List ℕ
told_text None = []
told_text (Some text) = text

-- By what was read, which is what is told where the files are told, it is told whether the limit cut the run (`cut_line`).
pub record ExplainsLimit (subject : Subject) (holds : Option (List NamedFile)) (text : Option (List ℕ)) : Type 0 where
  pub read : Read
  pub is_told : (files : List NamedFile) → holds ≡ Some files → read ≡ read_told subject.schedule subject.words files
  pub answered : IsAnswered WasCut subject read (told_text text)

-- so the question whether the limit cut the run ended with a fault
abbrev pub LacksLimit : Subject → Option (List NamedFile) → Faults → Fault → Type 0
LacksLimit subject holds f fault = Made (EndsQuestion WasCut subject) (read_told subject.schedule subject.words) holds f (Err fault)
