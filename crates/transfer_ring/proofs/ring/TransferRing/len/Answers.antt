use Rattle.std.proofs.Common.{◌∙◌, sym, ap, List, length}
use Rattle.transfer_ring.specs.declared.transfer.Transfer.{Transfer}
use Rattle.transfer_ring.proofs.KeepLemmas.{kept_length}
use Rattle.transfer_ring.proofs.ring.TransferRing.len.Goals as goal

pub returns-clause-count : goal.returns-clause-count
returns-clause-count c =
    let a = c.self.inside in
    c.len.ensures.len ∙ sym (kept_length a.slots.items a.order.items a.spare.items c.self.invariant.kept) ∙ ap (λ (l : List Transfer). length l) c.self.view_is
