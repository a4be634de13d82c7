use Rattle.replay_command.proofs.Replayed.{replayed}
use Rattle.replay_command.proofs.flat_texts.runs_are_replayed.Goals as goal

pub returns : goal.returns
returns c = replayed
