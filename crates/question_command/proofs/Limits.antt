-- What is told of a run that its limit cut.
use Rattle.std.proofs.Common.{◌≡◌, ℕ, List, Option, Ok, sym, subst}
use Rattle.io_edge.specs.FileHolding.{NamedFile}
use Rattle.command_edge.specs.Command.{Faults, Made}
use Rattle.reference_commands.specs.declared.question.Question.TheVariants.{WasCut}
use Rattle.reference_commands.specs.Reading.{read_told}
use Rattle.reference_commands.specs.Asking.{Subject}
use Rattle.reference_commands.specs.Ends.{IsAnswered, EndsQuestion}
use Rattle.question_command.specs.Explaining.{told_text, ExplainsLimit}

pub explained : (subject : Subject) (holds : Option (List NamedFile)) (f : Faults) (text : List ℕ) (told : Option (List ℕ))
    → Made (EndsQuestion WasCut subject) (read_told subject.schedule subject.words) holds f (Ok text) → told_text told ≡ text → ExplainsLimit subject holds told
explained subject holds f text told made same = record {
  read = made.read;
  is_told = made.is_told;
  answered = subst (IsAnswered WasCut subject made.read) (sym same) made.ends.1;
}
