-- Which question about a run the two of `film` and `stats` are.
use Rattle.reference_commands.specs.declared.question.Question.{Question}
use Rattle.reference_commands.specs.declared.question.Question.TheVariants as questions
use Rattle.question_command.specs.declared.asking.FilmQuestion.{FilmQuestion}
use Rattle.question_command.specs.declared.asking.FilmQuestion.TheVariants.{Film, Stats, WasCut}

-- the question, among all that are asked about a run
abbrev pub question_of : FilmQuestion → Question
question_of (Film steps) = questions.Film steps
question_of Stats = questions.Stats
question_of WasCut = questions.WasCut
