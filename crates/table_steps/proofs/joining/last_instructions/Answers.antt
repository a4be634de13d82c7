use Rattle.std.proofs.Common.{sym, ◌∙◌}
use Rattle.table_steps.specs.Joined.{instructions_in}
use Rattle.table_steps.proofs.Joins.{last_get}
use Rattle.table_steps.proofs.joining.last_instructions.Goals as goal

pub returns : goal.returns
returns c = c.instructions_in.ensures ∙ sym (last_get (instructions_in c.args.pid) c.args.journal.now c.in_ok-last.field-0.now (sym c.in_ok-last.ensures.value))
