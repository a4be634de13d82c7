use Rattle.std.proofs.Common.{◌≡◌, drop}
use Rattle.user_step.specs.Slots.{has_slot}
use Rattle.user_step.proofs.slots.has_slot.Given as goal

abbrev pub invariant-loop-slot : goal.invariant-loop-slot
invariant-loop-slot l = has_slot l.slots l.address ≡ has_slot (drop l.slot-index l.slots) l.address
