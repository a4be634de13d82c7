use Rattle.std.proofs.Common.{◌≡◌, ◌≢◌, ℕ, ◌<◌, length, refl, sym, ap, subst, arith, false, Some}
use Rattle.std.proofs.lemmas.Grind.{common_steps}
use Rattle.core_map.specs.declared.slot.Slot.TheVariants.{Resident, Away}
use Rattle.core_map.specs.Slots.{slot_at, slot_page, listings}
use Rattle.core_map.specs.Frames.{Frames, HoldsNot}
use Rattle.core_map.proofs.SlotLemmas.{held_by_none, sound_same, text_change}
use Rattle.core_map.proofs.map.CoreMap.seat.Goals as goal

pub invariant_of-self : goal.invariant_of-self
invariant_of-self c =
    let a = c.self.inside in
    let f = c.args.token.number in
    let now = sym c.self.view_is in
    let low : f < length a.slots.items = subst (λ (o : Frames). f < length o.slots) now c.requires.away.below in
    let away : slot_at a.slots.items f ≡ Away = subst (λ (o : Frames). slot_at o.slots f ≡ Away) now c.requires.away.away in
    let s = Resident c.args.token c.args.page false in
    let not_held : (g : ℕ) → slot_page (slot_at a.slots.items g) ≢ Some c.args.page = subst (λ (o : Frames). HoldsNot o c.args.page) now c.requires.not_held in
    record {
      bound = grind (arith, common_steps);
      text = rw (c.enter.ensures, c.put.ensures, c.number-frame.ensures.value) (text_change a.text a.slots.items f s c.self.invariant.text);
      sound = rw (c.put.ensures, c.number-frame.ensures.value)
          (sound_same a.free.frames a.slots.items f s c.self.invariant.sound c.requires.away.above_zero low refl c.number-frame.ensures.whole (sym (ap listings away))
          (held_by_none a.slots.items f s c.args.page refl not_held));
    }
