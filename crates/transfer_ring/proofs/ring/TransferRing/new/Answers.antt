use Rattle.std.proofs.Common.{◌∙◌}
use Rattle.transfer_ring.proofs.KeepLemmas.{fresh_more}
use Rattle.transfer_ring.proofs.ring.TransferRing.new.Goals as goal

pub loop-slot-preserved : goal.loop-slot-preserved
loop-slot-preserved c =
    let held = c.loop-slot.invariant in (
      fresh_more c.loop-slot.slot c.loop-slot.slots.items c.push_reserved.new.self.items c.loop-slot.spare.items c.push_reserved-in-loop-slot.new.self.items held.0 c.push_reserved.ensures.items
          c.push_reserved-in-loop-slot.ensures.items,
      c.push_reserved.ensures.capacity ∙ held.1,
      c.push_reserved-in-loop-slot.ensures.capacity ∙ held.2,
      held.3,
      held.4,
    )
