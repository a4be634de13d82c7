use Rattle.std.proofs.Common.{◌≡◌, drop}
use Rattle.user_step.specs.Slots.{byte_in}
use Rattle.user_step.proofs.slots.byte_in.Given as goal

abbrev pub invariant-loop-slot : goal.invariant-loop-slot
invariant-loop-slot l = byte_in l.slots l.address ≡ byte_in (drop l.slot-index l.slots) l.address
