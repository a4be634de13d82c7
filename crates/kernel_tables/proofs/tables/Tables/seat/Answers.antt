use Rattle.std.proofs.Common.{ℕ, false, List, set, ap, ◌∙◌, set-set}
use Rattle.std.proofs.lemmas.List.{get_or-set_same}
use Rattle.core_map.specs.declared.slot.Slot.{Slot}
use Rattle.core_map.specs.declared.slot.Slot.TheVariants.{Resident, Away}
use Rattle.core_map.specs.Slots.{slot_at, with_dirty}
use Rattle.kernel_tables.proofs.tables.Tables.seat.Goals as goal

pub returns-clause-slots : goal.returns-clause-slots
returns-clause-slots c =
    let f : ℕ = c.args.token.number in
    let was : List Slot = c.args.self.now.core.slots in
    let one : Slot = Resident c.args.token c.args.page false in
    c.set_dirty.ensures.slots
    ∙ ap (λ (n : ℕ). set c.seat.new.self.slots n (with_dirty (slot_at c.seat.new.self.slots n) c.args.dirty)) c.number-frame.ensures.value
    ∙ ap (λ (ss : List Slot). set ss f (with_dirty (slot_at ss f) c.args.dirty)) c.seat.ensures.slots
    ∙ ap (λ (x : Slot). set (set was f one) f (with_dirty x c.args.dirty)) (get_or-set_same was f one Away c.requires.away.below)
    ∙ set-set was f one (with_dirty one c.args.dirty)
