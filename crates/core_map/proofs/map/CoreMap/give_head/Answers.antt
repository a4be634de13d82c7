use Rattle.std.proofs.Common.{◌≡◌, ◌<◌, length, refl, sym, ap, subst, arith, None}
use Rattle.std.proofs.lemmas.Grind.{common_steps}
use Rattle.core_map.specs.declared.slot.Slot.TheVariants.{Free, Away}
use Rattle.core_map.specs.Slots.{slot_at, text_of}
use Rattle.core_map.specs.Frames.{Frames}
use Rattle.core_map.proofs.SlotLemmas.{sound_head, text_same}
use Rattle.core_map.proofs.map.CoreMap.give_head.Goals as goal

pub invariant_of-self : goal.invariant_of-self
invariant_of-self c =
    let a = c.self.inside in
    let f = c.args.token.number in
    let now = sym c.self.view_is in
    let low : f < length a.slots.items = subst (λ (o : Frames). f < length o.slots) now c.requires.below in
    let away : slot_at a.slots.items f ≡ Away = subst (λ (o : Frames). slot_at o.slots f ≡ Away) now c.requires.away in
    record {
      bound = grind (arith, common_steps);
      text = rw (c.put.ensures, c.number-frame.ensures.value) (text_same a.text a.slots.items f (Free c.args.token None) c.self.invariant.text (sym (ap text_of away)));
      sound = rw (c.push_front.ensures.frames, c.put.ensures, c.number-frame.ensures.value)
          (sound_head a.free.frames a.slots.items f (Free c.args.token None) c.self.invariant.sound c.requires.above_zero low away refl c.number-frame.ensures.whole refl refl);
    }
