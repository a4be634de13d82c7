use Rattle.paged_model.proofs.Lines.{entries_state, entries_misstep, entries_run}
use Rattle.paged_model.proofs.laws.entries_are_lines.Goals as goal

pub returns-clause-state : goal.returns-clause-state
returns-clause-state c = entries_state

pub returns-clause-misstep : goal.returns-clause-misstep
returns-clause-misstep c = entries_misstep

pub returns-clause-run : goal.returns-clause-run
returns-clause-run c = entries_run
