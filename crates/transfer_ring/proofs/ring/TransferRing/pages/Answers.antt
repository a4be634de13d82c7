use Rattle.std.proofs.Common.{◌≡◌, ◌+◌, List, Option, sym, ap, ap₂, ◌∙◌}
use Rattle.transfer_ring.specs.declared.transfer.Transfer.{Transfer}
use Rattle.transfer_ring.specs.Counting.{pages_of_all}
use Rattle.transfer_ring.specs.Slots.{in_flight}
use Rattle.transfer_ring.proofs.CountLemmas.{all-in_flight}
use Rattle.transfer_ring.proofs.ring.TransferRing.pages.Goals as goal

pub returns : goal.returns
returns c =
    let a = c.self.inside in
    let xs = c.as_slices.result.0.now in
    let ys = c.as_slices.result.1.now in
    let first : c.pages_in.result ≡ pages_of_all (in_flight a.slots.items xs) =
    c.pages_in.ensures.count ∙ ap (λ (slots : List (Option Transfer)). pages_of_all (in_flight slots xs)) c.deref.ensures.value in
    let rest : c.pages_in-2.result ≡ pages_of_all (in_flight a.slots.items ys) =
    c.pages_in-2.ensures.count ∙ ap (λ (slots : List (Option Transfer)). pages_of_all (in_flight slots ys)) c.deref-2.ensures.value in
    ap₂ ◌+◌ first rest ∙ sym (all-in_flight a.slots.items xs ys a.order.items c.as_slices.ensures) ∙ ap pages_of_all c.self.view_is
