use Rattle.std.proofs.Common.{◌≡◌, ◌∙◌, sym, ap, subst, ℕ, List, ◌∷◌, drop}
use Rattle.circular_buffer.specs.Buffer.{Buffer}
use Rattle.transfer_ring.specs.declared.transfer.Transfer.{Transfer}
use Rattle.transfer_ring.specs.Slots.{in_flight}
use Rattle.transfer_ring.proofs.KeepLemmas.{head_of, abandon_kept, abandon_view}
use Rattle.transfer_ring.proofs.ring.TransferRing.abandon.Goals as goal

pub invariant_of-self-2 : goal.invariant_of-self-2
invariant_of-self-2 c =
    let a = c.self.inside in
    let slot = c.in_ok-slot.slot in
    let rest = ap (λ (b : Buffer ℕ). b.items) c.in_ok-slot.ensures.items in
    let order : a.order.items ≡ slot ∷ c.pop_front.new.self.items = head_of a.order.items slot c.in_ok-slot.ensures.value ∙ ap (λ (l : List ℕ). slot ∷ l) (sym rest) in
    record {
      order_room = ap (λ (b : Buffer ℕ). b.capacity) c.in_ok-slot.ensures.items ∙ c.self.invariant.order_room;
      spare_room = c.push_reserved.ensures.capacity ∙ c.self.invariant.spare_room;
      kept = abandon_kept a.slots.items c.take-transfer.new.slots.items a.order.items c.pop_front.new.self.items a.spare.items c.push_reserved.new.self.items slot c.self.invariant.kept order
          c.take-transfer.ensures.after c.push_reserved.ensures.items;
    }

pub returns-clause-rest : goal.returns-clause-rest
returns-clause-rest c =
    let a = c.self.inside in
    let slot = c.in_ok-slot.slot in
    let rest = ap (λ (b : Buffer ℕ). b.items) c.in_ok-slot.ensures.items in
    let order : a.order.items ≡ slot ∷ c.pop_front.new.self.items = head_of a.order.items slot c.in_ok-slot.ensures.value ∙ ap (λ (l : List ℕ). slot ∷ l) (sym rest) in
    subst (λ (l : List Transfer). in_flight c.take-transfer.new.slots.items c.pop_front.new.self.items ≡ drop 1 l) c.self.view_is
    (abandon_view a.slots.items c.take-transfer.new.slots.items a.order.items c.pop_front.new.self.items a.spare.items slot c.take-transfer.result c.self.invariant.kept order
    c.take-transfer.ensures.after c.take-transfer.ensures.was)
