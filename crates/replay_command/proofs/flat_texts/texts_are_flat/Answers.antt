use Rattle.replay_command.proofs.Texts.{text_flat}
use Rattle.replay_command.proofs.flat_texts.texts_are_flat.Goals as goal

pub returns : goal.returns
returns c = text_flat
