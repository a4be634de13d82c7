use Rattle.std.proofs.Common.{sym, ◌∙◌}
use Rattle.question_command.proofs.Finishes.{at_full}
use Rattle.question_command.proofs.counting.table_of.Goals as goal

pub table_over-requires-clause-over : goal.table_over-requires-clause-over
table_over-requires-clause-over c = sym c.is_over.ensures ∙ c.if-is_over.true

pub returns-else-is_over : goal.returns-else-is_over
returns-else-is_over c = λ A holds i are many counted.
    at_full A c.args.film.now holds i (record { state = counted.state; image = counted.image; at = counted.at }) c.requires.ends (sym c.is_over.ensures ∙ c.if-is_over.false)
