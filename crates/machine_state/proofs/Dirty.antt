-- Whether a page is dirty, by its entry and the text table.
use Rattle.std.proofs.Common.{◌≡◌, ℕ, Bool, true, false, not, cond, List, Option, Some, None, refl, sym, ap, ◌∙◌}
use Rattle.vm_facts.specs.declared.page.Page.{Page}
use Rattle.vm_facts.specs.declared.page.Page.TheVariants.{Data, Stack, Text}
use Rattle.vm_facts.specs.declared.page.PageState.TheVariants.{Valid, Invalid}
use Rattle.vax_pte.specs.declared.Place.{Place}
use Rattle.vax_pte.specs.declared.Place.TheVariants as places
use Rattle.core_map.specs.declared.slot.Slot.{Slot as Token}
use Rattle.core_map.specs.Slots.{slot_at, is_slot_dirty}
use Rattle.page_model.specs.Pages.{Slot}
use Rattle.page_model.specs.Placement.{IsThere, is_dirty, state_of}
use Rattle.page_model.specs.PageBytes.{IsWritable}
use Rattle.flat_state.specs.Numbers.{AllDistinct}
use Rattle.table_steps.specs.KernelTablesShown.{slot_shown, entry_in, changed_named}
use Rattle.table_steps.specs.Rising.{sids_of}
use Rattle.table_steps.specs.Steps.{dirty_shown}
use Rattle.table_steps.specs.View.{Lists, placement_of}
use Rattle.table_steps.specs.Known.{Known}
use Rattle.table_steps.proofs.Residing.{Resides, resides, resides_state}
use Rattle.table_steps.proofs.Touches.{InFrame}
use Rattle.table_steps.proofs.Shows.{slot_or, data_shown, stack_shown, text_at, text_within}

mark_by : (slots : List Token) (o : Option Place) → (slot_or (slot_shown slots) o).mark ≡ changed_named o
mark_by slots None = refl
mark_by slots (Some places.Zero) = refl
mark_by slots (Some (places.Image v)) = refl
mark_by slots (Some places.Swap) = refl
mark_by slots (Some (places.Frame f valid changed)) = refl

pub dirty_is : (t : Lists) (q : Page) → AllDistinct (sids_of t.spaces) → IsThere (placement_of t) q
    → dirty_shown t.spaces t.texts q ≡ is_dirty (placement_of t) q
dirty_is t (Data n v) d there = sym (ap (λ (s : Slot). s.mark) (data_shown t.slots t.spaces n v d) ∙ mark_by t.slots (entry_in t.spaces (Data n v)))
dirty_is t (Stack n v) d there = sym (ap (λ (s : Slot). s.mark) (stack_shown t.slots t.spaces n v d) ∙ mark_by t.slots (entry_in t.spaces (Stack n v)))
dirty_is t (Text i v) d there = sym (ap (λ (s : Slot). not s.mark) (text_at t i v (text_within t i v there)))

writable_dirty : (t : Lists) (q : Page) → IsWritable q → dirty_shown t.spaces t.texts q ≡ changed_named (entry_in t.spaces q)
writable_dirty t (Data n v) w = refl
writable_dirty t (Stack n v) w = refl
writable_dirty t (Text i v) w = absurd w

is_usable : (v : Bool) (f : ℕ) → cond v (Valid f) (Invalid f) ≡ Valid f → v ≡ true
is_usable true f e = refl
is_usable false f e = absurd cc

-- where a frame is marked, the entry of its valid page says so
pub named_dirty : (t : Lists) (q : Page) (f : ℕ) → Known t → IsWritable q → state_of (placement_of t) q ≡ Valid f → InFrame t q f
    → is_slot_dirty (slot_at t.slots f) ≡ true → entry_in t.spaces q ≡ Some (places.Frame f true true)
named_dirty t q f k w valid i dirty =
    let r : Resides t q f = resides t q f i.token i.dirty k i.resident in
    let usable : r.valid ≡ true = is_usable r.valid f (sym (resides_state t q f r) ∙ valid) in
    let marked : i.dirty ≡ true = sym (ap is_slot_dirty i.resident) ∙ dirty in
    let changed : r.changed ≡ true =
    sym (ap changed_named r.entry) ∙ sym (writable_dirty t q w) ∙ sym (k.tied.marked f i.token q i.dirty i.resident) ∙ marked in
    r.entry ∙ ap (λ (v : Bool). Some (places.Frame f v r.changed)) usable ∙ ap (λ (c : Bool). Some (places.Frame f true c)) changed
