use Rattle.std.proofs.Common.{sym, ap, ◌∙◌}
use Rattle.std.specs.Option.{is_some}
use Rattle.machine_state.specs.Joined.{instructions_in}
use Rattle.machine_state.proofs.Joins.{last_get}
use Rattle.proc_run.proofs.attempting.last_counts.Goals as goal

pub returns-in-Some : goal.returns-in-Some
returns-in-Some c = c.counts.ensures ∙ ap is_some (sym (last_get (instructions_in c.args.of) c.args.journal.now c.in-Some.e.now (sym c.in-Some.ensures.value)))
