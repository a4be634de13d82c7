use Rattle.replay_command.proofs.SameImages.{same_images}
use Rattle.replay_command.proofs.acceptance.same_images.Goals as goal

pub returns : goal.returns
returns c = same_images
