use Rattle.std.proofs.Common.{◌/◌, ◌∙◌}
use Rattle.machine_state.proofs.user_memory.SpaceMemory.data_frame.Goals as goal

pub returns : goal.returns
returns c = c.data_frame.ensures ∙ c.space.ensures.«data» (c.args.at / 1024)
