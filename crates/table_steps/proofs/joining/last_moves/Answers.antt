use Rattle.std.proofs.Common.{sym, ◌∙◌}
use Rattle.table_steps.specs.Joined.{moves_in}
use Rattle.table_steps.proofs.Joins.{last_get}
use Rattle.table_steps.proofs.joining.last_moves.Goals as goal

pub returns : goal.returns
returns c = c.moves_in.ensures ∙ sym (last_get moves_in c.args.journal.now c.in_ok-last.field-0.now (sym c.in_ok-last.ensures.value))
