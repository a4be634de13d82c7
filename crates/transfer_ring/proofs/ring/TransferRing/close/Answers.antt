use Rattle.std.proofs.Common.{◌∙◌}
use Rattle.transfer_ring.proofs.KeepLemmas.{closed_order, closed_slots}
use Rattle.transfer_ring.proofs.ring.TransferRing.close.Goals as goal

pub destroy_empty-requires : goal.destroy_empty-requires
destroy_empty-requires c =
    let a = c.self.inside in
    closed_order a.slots.items a.order.items a.spare.items c.self.invariant.kept (c.self.view_is ∙ c.requires)

pub end_slots-requires : goal.end_slots-requires
end_slots-requires c =
    let a = c.self.inside in
    closed_slots a.slots.items a.order.items a.spare.items c.self.invariant.kept (c.self.view_is ∙ c.requires)
