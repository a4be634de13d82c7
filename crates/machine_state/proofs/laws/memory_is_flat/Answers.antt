use Rattle.machine_state.proofs.FlatMemory.{memory_covers}
use Rattle.machine_state.proofs.laws.memory_is_flat.Goals as goal

pub returns : goal.returns
returns c = memory_covers
