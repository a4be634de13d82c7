use Rattle.std.proofs.Common.{sym, ◌∙◌}
use Rattle.question_command.proofs.Finishes.{at_full}
use Rattle.question_command.proofs.ending.end_of.Goals as goal

pub end_over-requires-clause-over : goal.end_over-requires-clause-over
end_over-requires-clause-over c = sym c.is_over.ensures ∙ c.if-is_over.true

pub returns-else-is_over : goal.returns-else-is_over
returns-else-is_over c = λ A holds i are was. at_full A c.args.film.now holds i was c.requires.ends (sym c.is_over.ensures ∙ c.if-is_over.false)
