use Rattle.std.proofs.Common.{sym, ap, ◌∙◌, length, arith}
use Rattle.grade_command.proofs.Going.{differs_beyond, written_whole, written_so_far}
use Rattle.grade_command.proofs.grading.grade_along.Goals as goal

pub returns-then-made-entries : goal.returns-then-made-entries
returns-then-made-entries c = λ A holds i frames was.
    let count = ap length c.journal-made.ensures in
    differs_beyond A c.args.film.now holds i c.args.entries.now frames was (omega (arith, count, c.if-made-entries.true)) c.requires.ended _ (omega (arith, count))

pub returns-then-is_over : goal.returns-then-is_over
returns-then-is_over c = λ A holds i frames was.
    let count = ap length c.journal-made.ensures in
    written_whole A c.args.film.now holds i c.args.entries.now frames was (omega (arith, count, c.if-made-entries.false)) (sym c.is_over.ensures ∙ c.if-is_over.true)

pub returns-else-is_over : goal.returns-else-is_over
returns-else-is_over c = λ A holds i frames was.
    let count = ap length c.journal-made.ensures in
    written_so_far A c.args.film.now holds i c.args.entries.now frames was (omega (arith, count, c.if-made-entries.false)) (sym c.is_over.ensures ∙ c.if-is_over.false)
