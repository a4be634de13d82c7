-- The ring by its private fields.
use Rattle.std.specs.Prelude.{◌≡◌, List}
use Rattle.std.specs.Vec.{vec_capacity}
use Rattle.transfer_ring.specs.declared.transfer.Transfer.{Transfer}
use Rattle.transfer_ring.specs.Slots.{in_flight, IsKept}
use Rattle.transfer_ring.specs.declared.ring.TransferRing.TheInside.{Inside}

-- the ring as its callers see it: the transfers in flight, the oldest first
abbrev pub transfers_of : Inside → List Transfer
transfers_of a = in_flight a.slots.items a.order.items

-- there is room for 16 transfers, and each slot has one in flight or is spare
pub record IsRing (a : Inside) : Type 0 where
  pub order_room : a.order.capacity ≡ 16
  pub spare_room : vec_capacity a.spare ≡ 16
  pub kept : IsKept a.slots.items a.order.items a.spare.items
