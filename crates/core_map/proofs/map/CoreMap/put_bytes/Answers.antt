use Rattle.std.proofs.Common.{◌≡◌, sym, ap, subst, ◌∙◌, arith, true}
use Rattle.std.proofs.lemmas.Grind.{common_steps}
use Rattle.core_map.specs.declared.slot.Slot.{Slot}
use Rattle.core_map.specs.Slots.{slot_at, is_resident, key_of, with_bytes}
use Rattle.core_map.specs.Frames.{Frames}
use Rattle.core_map.proofs.SlotLemmas.{resident_below, slot_read, text_same, sound_bytes, page_of-with_bytes}
use Rattle.core_map.proofs.map.CoreMap.put_bytes.Goals as goal

pub invariant_of-self : goal.invariant_of-self
invariant_of-self c =
    let a = c.self.inside in
    let f = c.args.frame in
    let res : is_resident (slot_at a.slots.items f) ≡ true = subst (λ (o : Frames). is_resident (slot_at o.slots f) ≡ true) (sym c.self.view_is) c.requires.resident in
    let read = slot_read a.slots.items f c.index_mut.result.now (resident_below a.slots.items f res) c.index_mut.ensures.value in
    let s = slot_at a.slots.items f in
    let now : c.put_bytes.new.slot ≡ with_bytes s c.args.at c.args.bytes.now = c.put_bytes.ensures ∙ ap (λ (t : Slot). with_bytes t c.args.at c.args.bytes.now) read in
    record {
      bound = grind (arith, common_steps);
      text = rw now (text_same a.text a.slots.items f (with_bytes s c.args.at c.args.bytes.now) c.self.invariant.text (ap key_of (page_of-with_bytes s c.args.at c.args.bytes.now)));
      sound = rw now (sound_bytes a.free.frames a.slots.items f c.args.at c.args.bytes.now c.self.invariant.sound res);
    }
