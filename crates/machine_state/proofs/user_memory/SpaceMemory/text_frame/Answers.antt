use Rattle.std.proofs.Common.{◌/◌, ◌∙◌}
use Rattle.machine_state.proofs.user_memory.SpaceMemory.text_frame.Goals as goal

pub returns : goal.returns
returns c = c.text_frame.ensures ∙ c.space.ensures.text (c.args.at / 1024)
