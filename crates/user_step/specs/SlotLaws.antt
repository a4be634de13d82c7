-- These writes keep to what a memory promises of its writes.
use Rattle.std.proofs.Common.{◌≡◌, List, [], ◌∷◌, ◌++◌, map, refl, sym, ap, ◌∙◌}
use Rattle.vm_facts.specs.Answers.{Answers, ByteWrite, written}
use Rattle.user_vax.specs.ArrayMemory.{written-append}
use Rattle.user_step.specs.declared.slots.Slot.{Slot}
use Rattle.user_step.specs.Slots.{stored, all_stored, over, WroteSlots}

stored_more : (slots : List Slot) (xs ys : List ByteWrite) → all_stored slots (xs ++ ys) ≡ all_stored (all_stored slots xs) ys
stored_more slots [] ys = refl
stored_more slots (x ∷ xs) ys = stored_more (map (stored x) slots) xs ys

-- with no writes the memory is as it was
pub slots_none : (memory : Answers) (slots : List Slot) → WroteSlots memory slots [] memory slots
slots_none memory slots = record { same = refl; kept = refl; answers = refl }

-- writes and then further ones are the writes of both in a row
pub slots_more : (a b c : Answers) (x y z : List Slot) (xs ys : List ByteWrite) → WroteSlots a x xs b y → WroteSlots b y ys c z → WroteSlots a x (xs ++ ys) c z
slots_more a b c x y z xs ys h k = record {
  same = k.same ∙ h.same;
  kept = k.kept ∙ ap (λ (s : List Slot). all_stored s ys) h.kept ∙ sym (stored_more x xs ys);
  answers = k.answers ∙ ap (λ (m : Answers). written m ys) h.answers ∙ sym (written-append (over a x) xs ys);
}

-- after writes it answers as a memory to which they were made
pub slots_after : (a b : Answers) (x y : List Slot) (ws : List ByteWrite) → WroteSlots a x ws b y → over b y ≡ written (over a x) ws
slots_after a b x y ws h = h.answers
