use Rattle.std.proofs.Common.{◌/◌, ◌∙◌}
use Rattle.machine_state.proofs.user_memory.SpaceMemory.stack_frame.Goals as goal

pub returns : goal.returns
returns c = c.stack_frame.ensures ∙ c.space.ensures.stack (c.args.at / 1024)
