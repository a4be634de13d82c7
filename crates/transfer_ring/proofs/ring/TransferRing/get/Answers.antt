-- The slot at the place of the order has the transfer, and past the order's end there is none.
use Rattle.std.proofs.Common.{List, Option, Some, None, slice_get, option_copied, sym, ap, ◌∙◌, ◌≡◌, Bor}
use Rattle.transfer_ring.specs.declared.transfer.Transfer.{Transfer}
use Rattle.transfer_ring.specs.Slots.{slot_at}
use Rattle.transfer_ring.proofs.KeepLemmas.{get-in_flight, get-in_flight_past, kept_used}
use Rattle.transfer_ring.proofs.ring.TransferRing.get.Goals as goal

pub returns-in_err-slot : goal.returns-in_err-slot
returns-in_err-slot c =
    let a = c.self.inside in
    let none : slice_get a.order.items c.args.place ≡ None = sym c.in_err-slot.ensures in
    let past = get-in_flight_past a.slots.items a.order.items c.args.place (kept_used a.slots.items a.order.items a.spare.items c.self.invariant.kept) none in
    let answer : option_copied c.from_residual.result ≡ None = ap (λ (r : Option (Bor Transfer)). option_copied r) c.from_residual.ensures in
    answer ∙ sym past ∙ ap (λ (ts : List Transfer). slice_get ts c.args.place) c.self.view_is

pub returns : goal.returns
returns c =
    let a = c.self.inside in
    let some : slice_get a.order.items c.args.place ≡ Some c.in_ok-slot.slot.now = sym c.in_ok-slot.ensures in
    let at = get-in_flight a.slots.items a.order.items c.args.place c.in_ok-slot.slot.now (kept_used a.slots.items a.order.items a.spare.items c.self.invariant.kept) some in
    c.in_slot.ensures ∙ ap (λ (slots : List (Option Transfer)). slot_at slots c.in_ok-slot.slot.now) c.deref.ensures.value
    ∙ sym at ∙ ap (λ (ts : List Transfer). slice_get ts c.args.place) c.self.view_is
