use Rattle.std.proofs.Common.{◌≢◌, ℕ, List, sym, ap, subst, arith, Some, IfSome}
use Rattle.std.proofs.lemmas.Grind.{common_steps}
use Rattle.core_map.specs.declared.slot.Slot.{Slot}
use Rattle.core_map.specs.declared.slot.Slot.TheVariants.{Away}
use Rattle.core_map.specs.Slots.{slot_at, slot_page}
use Rattle.core_map.proofs.SlotLemmas.{free_below, head_free, page_gone, sound_taken, text_change}
use Rattle.core_map.proofs.map.CoreMap.take_free.Goals as goal

pub invariant_of-self-2 : goal.invariant_of-self-2
invariant_of-self-2 c =
    let a = c.self.inside in
    let f = c.in_ok-frame.frame in
    record {
      bound = grind (arith, common_steps);
      text = rw (c.leave.ensures, c.take_free-token.ensures.after) (text_change a.text a.slots.items f Away c.self.invariant.text);
      sound = rw c.take_free-token.ensures.after (sound_taken a.free.frames c.pop_front.new.self.frames a.slots.items f c.self.invariant.sound c.in_ok-frame.ensures.some);
    }

pub returns-clause-gone : goal.returns-clause-gone
returns-clause-gone c =
    let a = c.self.inside in
    let f = c.in_ok-frame.frame in
    let low = free_below a.slots.items f (head_free a.free.frames c.pop_front.new.self.frames a.slots.items f c.self.invariant.sound c.in_ok-frame.ensures.some) in
    let before = page_gone a.free.frames a.slots.items f c.self.invariant.sound low c.take_free-token.result.1 (ap slot_page c.take_free-token.ensures.was) in
    subst (λ (k : List Slot). IfSome c.take_free-token.result.1 (λ p. (g : ℕ) → slot_page (slot_at k g) ≢ Some p)) (sym c.take_free-token.ensures.after) before
