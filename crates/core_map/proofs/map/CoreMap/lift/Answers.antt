use Rattle.std.proofs.Common.{◌≡◌, ◌≢◌, ℕ, List, set, refl, sym, ap, subst, ◌∙◌, arith, true, Some, IfSome}
use Rattle.std.proofs.lemmas.Grind.{common_steps}
use Rattle.core_map.specs.declared.slot.Slot.{Slot}
use Rattle.core_map.specs.declared.slot.Slot.TheVariants.{Away}
use Rattle.core_map.specs.Slots.{slot_at, is_resident, slot_page}
use Rattle.core_map.specs.Frames.{Frames}
use Rattle.core_map.proofs.SlotLemmas.{resident_below, sound_lifted, text_change, page_gone}
use Rattle.core_map.proofs.map.CoreMap.lift.Goals as goal

pub invariant_of-self : goal.invariant_of-self
invariant_of-self c =
    let a = c.self.inside in
    let f = c.args.frame in
    let res : is_resident (slot_at a.slots.items f) ≡ true = subst (λ (o : Frames). is_resident (slot_at o.slots f) ≡ true) (sym c.self.view_is) c.requires in
    record {
      bound = grind (arith, common_steps);
      text = rw (c.leave.ensures, c.take_resident-token.ensures.after) (text_change a.text a.slots.items f Away c.self.invariant.text);
      sound = rw c.take_resident-token.ensures.after (sound_lifted a.free.frames a.slots.items f c.self.invariant.sound res);
    }

pub returns-clause-gone : goal.returns-clause-gone
returns-clause-gone c =
    let a = c.self.inside in
    let f = c.args.frame in
    let was : is_resident (slot_at a.slots.items f) ≡ true = subst (λ (o : Frames). is_resident (slot_at o.slots f) ≡ true) (sym c.self.view_is) c.requires in
    let before = page_gone a.free.frames a.slots.items f c.self.invariant.sound (resident_below a.slots.items f was) (slot_page (slot_at a.slots.items f)) refl in
    let now = subst (λ (o : Frames). IfSome (slot_page (slot_at o.slots f)) (λ p. (g : ℕ) → slot_page (slot_at (set o.slots f Away) g) ≢ Some p)) c.self.view_is before in
    subst (λ (k : List Slot). IfSome (slot_page (slot_at c.args.self.now.slots f)) (λ p. (g : ℕ) → slot_page (slot_at k g) ≢ Some p))
    (sym (c.take_resident-token.ensures.after ∙ ap (λ (o : Frames). set o.slots f Away) c.self.view_is)) now
