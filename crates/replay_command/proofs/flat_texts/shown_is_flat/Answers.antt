use Rattle.replay_command.proofs.Shown.{shown_run, shown_count}
use Rattle.replay_command.proofs.flat_texts.shown_is_flat.Goals as goal

pub returns-clause-run : goal.returns-clause-run
returns-clause-run c = shown_run

pub returns-clause-count : goal.returns-clause-count
returns-clause-count c = shown_count
