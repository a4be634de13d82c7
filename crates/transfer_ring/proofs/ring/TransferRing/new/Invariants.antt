use Rattle.std.proofs.Common.{◌≡◌, []}
use Rattle.std.specs.Vec.{vec_capacity}
use Rattle.transfer_ring.proofs.KeepLemmas.{IsFresh}
use Rattle.transfer_ring.proofs.ring.TransferRing.new.Given as goal

abbrev pub invariant-loop-slot : goal.invariant-loop-slot
invariant-loop-slot l =
    IsFresh l.slot l.slots.items l.spare.items
    × (vec_capacity l.slots ≡ 16) × (vec_capacity l.spare ≡ 16) × (l.order.items ≡ []) × (l.order.capacity ≡ 16)
