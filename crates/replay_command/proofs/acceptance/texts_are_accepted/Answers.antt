use Rattle.replay_command.proofs.Accepting.{are_accepted}
use Rattle.replay_command.proofs.acceptance.texts_are_accepted.Goals as goal

pub returns : goal.returns
returns c = are_accepted
