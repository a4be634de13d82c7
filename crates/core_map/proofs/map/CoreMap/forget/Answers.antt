use Rattle.std.proofs.Common.{◌≡◌, set-set, refl, sym, ap, subst, ◌∙◌, arith, true, None}
use Rattle.std.proofs.lemmas.Grind.{common_steps}
use Rattle.core_map.specs.declared.slot.Slot.{Slot}
use Rattle.core_map.specs.declared.slot.Slot.TheVariants.{Free}
use Rattle.core_map.specs.Slots.{slot_at, is_free, slot_number, token_of, IsWhole}
use Rattle.core_map.specs.Frames.{Frames}
use Rattle.core_map.proofs.SlotLemmas.{sound_forget, text_change}
use Rattle.core_map.proofs.map.CoreMap.forget.Goals as goal

pub invariant_of-self : goal.invariant_of-self
invariant_of-self c =
    let a = c.self.inside in
    let f = c.args.frame in
    let s = Free c.take_free-token.result.0 None in
    let frees : is_free (slot_at a.slots.items f) ≡ true = subst (λ (o : Frames). is_free (slot_at o.slots f) ≡ true) (sym c.self.view_is) c.requires in
    let number = sym (ap (λ (s : Slot). slot_number s f) c.take_free-token.ensures.was) ∙ c.self.invariant.sound.numbered f in
    record {
      bound = grind (arith, common_steps);
      text = rw (c.leave.ensures, c.put.ensures, c.take_free-token.ensures.after, set-set) (text_change a.text a.slots.items f s c.self.invariant.text);
      sound = rw (c.move_to_front.ensures.frames, c.put.ensures, c.take_free-token.ensures.after, set-set)
          (sound_forget a.free.frames a.slots.items f s c.self.invariant.sound frees number (subst IsWhole c.take_free-token.ensures.was (c.self.invariant.sound.whole f)) refl refl);
    }

pub returns-clause-slots : goal.returns-clause-slots
returns-clause-slots c =
    let a = c.self.inside in
    let f = c.args.frame in
    let token = ap token_of c.take_free-token.ensures.was in
    c.put.ensures ∙ rw (c.take_free-token.ensures.after, set-set, ← c.self.view_is, token) refl
