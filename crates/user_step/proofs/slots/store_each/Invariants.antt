use Rattle.std.proofs.Common.{◌≡◌, ◌++◌, map, take, drop}
use Rattle.user_step.specs.Slots.{stored}
use Rattle.user_step.proofs.slots.store_each.Given as goal

abbrev pub invariant-loop-slot : goal.invariant-loop-slot
invariant-loop-slot l =
    l.slot-items ≡ map (stored (record { address = l.address; byte = l.byte })) (take l.slot-index l.fn.slots.items) ++ drop l.slot-index l.fn.slots.items
