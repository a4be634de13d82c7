use Rattle.machine_state.proofs.user_memory.SpaceMemoryMemory.ahead.Goals as goal

pub returns : goal.returns
returns c = c.bytes_from.ensures.ahead
