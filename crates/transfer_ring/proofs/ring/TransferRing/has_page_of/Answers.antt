use Rattle.std.proofs.Common.{◌≡◌, ◌∙◌, sym, ap, List, Option, true, false}
use Rattle.std.specs.List.{list_any}
use Rattle.transfer_ring.specs.declared.transfer.Transfer.{Transfer}
use Rattle.transfer_ring.specs.Naming.{names_page_of}
use Rattle.transfer_ring.specs.Slots.{in_flight}
use Rattle.transfer_ring.proofs.KeepLemmas.{first_part, second_part}
use Rattle.transfer_ring.proofs.ring.TransferRing.has_page_of.Goals as goal

pub returns-then-is_any_of : goal.returns-then-is_any_of
returns-then-is_any_of c =
    let a = c.self.inside in
    let test = names_page_of c.args.owner in
    let xs = c.as_slices.result.0.now in
    let ys = c.as_slices.result.1.now in
    let hit : list_any test (in_flight a.slots.items xs) ≡ true =
    sym (c.is_any_of.ensures ∙ ap (λ (slots : List (Option Transfer)). list_any test (in_flight slots xs)) c.deref.ensures.value) ∙ c.if-is_any_of.true in
    c.if-is_any_of.true ∙ sym (ap (λ (l : List Transfer). list_any test l) (sym c.self.view_is) ∙ first_part test a.slots.items xs ys a.order.items c.as_slices.ensures hit)

pub returns-else-is_any_of : goal.returns-else-is_any_of
returns-else-is_any_of c =
    let a = c.self.inside in
    let test = names_page_of c.args.owner in
    let xs = c.as_slices.result.0.now in
    let ys = c.as_slices.result.1.now in
    let miss : list_any test (in_flight a.slots.items xs) ≡ false =
    sym (c.is_any_of.ensures ∙ ap (λ (slots : List (Option Transfer)). list_any test (in_flight slots xs)) c.deref.ensures.value) ∙ c.if-is_any_of.false in
    c.is_any_of-else-is_any_of.ensures ∙ ap (λ (slots : List (Option Transfer)). list_any test (in_flight slots ys)) c.deref-else-is_any_of.ensures.value
    ∙ sym (ap (λ (l : List Transfer). list_any test l) (sym c.self.view_is) ∙ second_part test a.slots.items xs ys a.order.items c.as_slices.ensures miss)
