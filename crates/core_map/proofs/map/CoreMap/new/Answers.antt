use Rattle.std.proofs.Common.{◌≡◌, ◌<◌, List, ap, subst, length, arith}
use Rattle.core_map.specs.declared.slot.Slot.{Slot}
use Rattle.core_map.specs.declared.slot.Slot.TheVariants.{Away}
use Rattle.core_map.specs.Slots.{slot_at}
use Rattle.core_map.proofs.FreshLemmas.{fresh_sound, length-fresh, none_away, text_fresh}
use Rattle.core_map.proofs.map.CoreMap.new.Goals as goal

pub invariant_of-result : goal.invariant_of-result
invariant_of-result c = record {
  bound = omega (arith, length-fresh c.args.frames, ap length c.in_ok-slots.ensures, c.in_ok-free.ensures);
  text = rw (c.in_ok-text.ensures, c.in_ok-slots.ensures) (text_fresh c.args.frames);
  sound = rw (c.in_ok-free.ensures.1, c.in_ok-slots.ensures) (fresh_sound c.args.frames (omega arith));
}

pub returns-clause-none_away : goal.returns-clause-none_away
returns-clause-none_away c = λ frame is.
    let slots = c.in_ok-slots.ensures in
    none_away c.args.frames frame is.above_zero (subst (λ (s : List Slot). frame < length s) slots is.below) (subst (λ (s : List Slot). slot_at s frame ≡ Away) slots is.away)
