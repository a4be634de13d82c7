use Rattle.table_steps.proofs.UserFrames.{number_below}
use Rattle.machine_state.proofs.user_memory.SpaceMemory.space.Goals as goal

pub space_at-requires-clause-within : goal.space_at-requires-clause-within
space_at-requires-clause-within c =
    let m = c.args.self.now in
    number_below m.machine.now.kernel.place m.layout.index m.layout.sid m.laid_out.number

pub returns : goal.returns
returns c = let m = c.args.self.now in c.space_at.ensures m.layout.sid m.laid_out.number
