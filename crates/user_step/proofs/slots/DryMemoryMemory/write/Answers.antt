use Rattle.user_step.proofs.Storing.{wrote_slot}
use Rattle.user_step.proofs.slots.DryMemoryMemory.write.Goals as goal

pub returns : goal.returns
returns g c =
    wrote_slot (g.M.Memory.answers c.args.self.now.memory.now) c.args.self.now.slots.items c.store_each.new.slots.items (record { address = c.args.address; byte = c.args.byte })
    c.store_each.ensures c.requires
