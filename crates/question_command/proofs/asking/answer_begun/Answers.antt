use Rattle.std.proofs.Common.{sym, subst}
use Rattle.command_edge.specs.Ending.{ending_of}
use Rattle.reference_commands.specs.InMemory.{EndsAnswer}
use Rattle.question_command.specs.declared.asking.FilmQuestion.{FilmQuestion}
use Rattle.question_command.specs.Asked.{question_of}
use Rattle.question_command.proofs.asking.answer_begun.Goals as goal

pub returns-in-Film : goal.returns-in-Film
returns-in-Film g c = λ A image are many begun.
    subst (λ (asked : FilmQuestion). EndsAnswer (question_of asked) A (ending_of c.film_begun.result)) (sym c.in-Film.is)
    (c.film_begun.ensures A image are begun)

pub returns-in-Stats : goal.returns-in-Stats
returns-in-Stats g c = λ A image are many begun.
    subst (λ (asked : FilmQuestion). EndsAnswer (question_of asked) A (ending_of c.count_begun.result)) (sym c.in-Stats.is)
    (c.count_begun.ensures A image are many begun)

pub returns-in-WasCut : goal.returns-in-WasCut
returns-in-WasCut g c = λ A image are many begun.
    subst (λ (asked : FilmQuestion). EndsAnswer (question_of asked) A (ending_of c.end_begun.result)) (sym c.in-WasCut.is)
    (c.end_begun.ensures A image are begun)
