use Rattle.std.proofs.Common.{◌≡◌, ℕ, None, vec_len}
use Rattle.transfer_ring.specs.Slots.{slot_at}
use Rattle.transfer_ring.proofs.ring.end_slots.Given as goal

abbrev pub invariant-loop-slot : goal.invariant-loop-slot
invariant-loop-slot l = (slot : ℕ) → slot_at l.slots.items slot ≡ None

abbrev pub decreases-loop-slot : goal.decreases-loop-slot
decreases-loop-slot l = vec_len l.slots
