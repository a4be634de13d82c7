-- No page comes to be valid by a change of a process.
use Rattle.std.proofs.Common.{◌≡◌, ◌≢◌, ◌⊎◌, inl, inr, ℕ, zero, suc, ◌-◌, ◌<◌, ◌≤◌, Bool, true, false, List, get_or, map, Option, Some, None, refl, sym, ap, ◌∙◌, subst, arith}
use Rattle.std.proofs.lemmas.Bool.{cases_eq}
use Rattle.vm_facts.proofs.Tests.{cases_le}
use Rattle.vm_facts.specs.declared.page.Page.{Page}
use Rattle.vm_facts.specs.declared.page.Page.TheVariants.{Data, Stack, Text}
use Rattle.aout_image.specs.declared.Image.{Image}
use Rattle.flat_state.specs.declared.change.Change.{Change}
use Rattle.flat_state.specs.declared.change.Change.TheVariants.{Keep, Resize, Fork, Lend, Exec, Reap, Sleep, End}
use Rattle.page_model.specs.Pages.{Slot, no_slot, SpacePages, is_valid, numbered, changed, data_in, stack_in}
use Rattle.page_model.specs.Placement.{Placement, space_number, slots_of, slot_of, image_of, sharers}
use Rattle.page_model.specs.Moves.{drop_all}
use Rattle.page_model.specs.Place.{Changing, sized, cut_space, resize, child_slot, fork_space, facts_numbered, remove_space, pages_of_space, pages_of_text, leave_text, leave_text_by, give_up, give_up_unless, enter_image, place_change}
use Rattle.page_model.specs.Conditions.{IsNew}
use Rattle.page_laws.proofs.Lists.Pages.{mapped, changed_same, changed_other}
use Rattle.page_laws.proofs.Ownership.Changes.{Alike, sized_past, sized_within, cut, dropped_pages, add_alike, child_blank, enter_alike, removed_same, removed_other}
use Rattle.fault_laws.proofs.Gains.{Keeps, keeps_self, keeps_both, drop_all_keeps, leave_all_keeps}

-- Other sizes.

-- a slot whose page is valid is one of these, where that one's is valid
abbrev Fewer : Slot → Slot → Type 0
Fewer new old = is_valid new.state ≡ true → is_valid old.state ≡ true

sized_fewer : (n v : ℕ) (xs : List Slot) → Fewer (get_or (sized n xs) v no_slot) (get_or xs v no_slot)
sized_fewer n v xs h = elim (cases_le n v) [
  | inl past ↦ absurd (let e : true ≡ false = sym h ∙ ap (λ (x : Slot). is_valid x.state) (sized_past n v xs past) in cc)
  | inr within ↦ ap is_valid (sym (sized_within n v xs within).0) ∙ h
]

data_fewer : (d s v : ℕ) (o : Option SpacePages) → Fewer (get_or (data_in (mapped (cut d s) o)) v no_slot) (get_or (data_in o) v no_slot)
data_fewer d s v None h = h
data_fewer d s v (Some x) h = sized_fewer d v x.data_pages h

stack_fewer : (d s v : ℕ) (o : Option SpacePages) → Fewer (get_or (stack_in (mapped (cut d s) o)) v no_slot) (get_or (stack_in o) v no_slot)
stack_fewer d s v None h = h
stack_fewer d s v (Some x) h = sized_fewer s v x.stack_pages h

-- a space of other sizes, or another one
cut_cases : (sid d s t : ℕ) (spaces : List SpacePages) → (Q : Option SpacePages → Option SpacePages → Type 0)
    → ((o : Option SpacePages) → Q (mapped (cut d s) o) o) → ((o : Option SpacePages) → Q o o)
    → Q (numbered space_number t (changed space_number sid (cut d s) spaces)) (numbered space_number t spaces)
cut_cases sid d s t spaces Q own other = elim (cases_eq t sid) [
  | inl e ↦ subst (λ (x : ℕ). Q (numbered space_number x (changed space_number sid (cut d s) spaces)) (numbered space_number x spaces)) (sym e)
      (subst (λ (y : Option SpacePages). Q y (numbered space_number sid spaces)) (sym (changed_same space_number sid (cut d s) (λ x. refl) spaces)) (own (numbered space_number sid spaces)))
  | inr n ↦ subst (λ (y : Option SpacePages). Q y (numbered space_number t spaces)) (sym (changed_other space_number sid t (cut d s) (λ x. refl) n spaces)) (other (numbered space_number t spaces))
]

cut_fewer : (p : Placement) (sid d s : ℕ) (w : Page) → Fewer (slot_of (cut_space p sid d s) w) (slot_of p w)
cut_fewer p sid d s (Data t v) = cut_cases sid d s t p.spaces (λ x y. Fewer (get_or (data_in x) v no_slot) (get_or (data_in y) v no_slot)) (data_fewer d s v) (λ o h. h)
cut_fewer p sid d s (Stack t v) = cut_cases sid d s t p.spaces (λ x y. Fewer (get_or (stack_in x) v no_slot) (get_or (stack_in y) v no_slot)) (stack_fewer d s v) (λ o h. h)
cut_fewer p sid d s (Text image v) = λ h. h

resize_keeps : (p : Placement) (sid d s : ℕ) → Keeps p (resize p sid d s)
resize_keeps p sid d s =
    let k : Keeps p (drop_all p (dropped_pages p sid d s)) = drop_all_keeps (dropped_pages p sid d s) p in
    record { valid = λ w h. k.valid w (cut_fewer (drop_all p (dropped_pages p sid d s)) sid d s w h); reads = k.reads }

-- A space that goes.

none_fewer : (v : ℕ) (xs ys : List Slot) → xs ≡ Rattle.std.proofs.Common.[] → Fewer (get_or xs v no_slot) (get_or ys v no_slot)
none_fewer v xs ys e h = absurd (let k : true ≡ false = sym h ∙ ap (λ (l : List Slot). is_valid (get_or l v no_slot).state) e in cc)

same_fewer : (x y : Slot) → x ≡ y → Fewer x y
same_fewer x y e h = ap (λ (z : Slot). is_valid z.state) (sym e) ∙ h

removed_fewer : (p : Placement) (sid : ℕ) (w : Page) → Fewer (slot_of (remove_space p sid) w) (slot_of p w)
removed_fewer p sid (Data t v) = elim (cases_eq t sid) [
  | inl e ↦ none_fewer v (data_in (numbered space_number t (remove_space p sid).spaces)) (slots_of p (Data t v))
      (ap (λ (x : ℕ). data_in (numbered space_number x (remove_space p sid).spaces)) e ∙ ap data_in (removed_same sid p.spaces))
  | inr n ↦ same_fewer (slot_of (remove_space p sid) (Data t v)) (slot_of p (Data t v)) (ap (λ (o : Option SpacePages). get_or (data_in o) v no_slot) (removed_other sid t p.spaces n))
]
removed_fewer p sid (Stack t v) = elim (cases_eq t sid) [
  | inl e ↦ none_fewer v (stack_in (numbered space_number t (remove_space p sid).spaces)) (slots_of p (Stack t v))
      (ap (λ (x : ℕ). stack_in (numbered space_number x (remove_space p sid).spaces)) e ∙ ap stack_in (removed_same sid p.spaces))
  | inr n ↦ same_fewer (slot_of (remove_space p sid) (Stack t v)) (slot_of p (Stack t v)) (ap (λ (o : Option SpacePages). get_or (stack_in o) v no_slot) (removed_other sid t p.spaces n))
]
removed_fewer p sid (Text image v) = λ h. h

leave_text_keeps : (p : Placement) (image : ℕ) → Keeps p (leave_text p image)
leave_text_keeps p image = go (sharers p image)
  where
    go : (n : ℕ) → Keeps p (leave_text_by p image n)
    go zero = leave_all_keeps (pages_of_text p image) p
    go (suc n) = keeps_self p

give_up_keeps : (p : Placement) (sid : ℕ) → Keeps p (give_up p sid)
give_up_keeps p sid =
    let d : Placement = drop_all p (pages_of_space p sid) in
    let k : Keeps p d = drop_all_keeps (pages_of_space p sid) p in
    let r : Keeps p (remove_space d sid) = record { valid = λ w h. k.valid w (removed_fewer d sid w h); reads = k.reads } in
    keeps_both p (remove_space d sid) (give_up p sid) r (leave_text_keeps (remove_space d sid) (image_of p sid))

unless_keeps : (borrowed : Bool) (p : Placement) (sid : ℕ) → Keeps p (give_up_unless borrowed p sid)
unless_keeps true p sid = keeps_self p
unless_keeps false p sid = give_up_keeps p sid

-- A space that comes.

alike_fewer : (x y : Slot) → Alike x y → Fewer x y
alike_fewer x y a h = ap is_valid (sym a.0) ∙ h

fork_keeps : (p : Placement) (sid next : ℕ) → IsNew p next → Keeps p (fork_space p sid next)
fork_keeps p sid next n = record {
  valid = λ w. alike_fewer (slot_of (fork_space p sid next) w) (slot_of p w) (add_alike p (record {
    sid = next;
    image = image_of p sid;
    data_pages = map child_slot (slots_of p (Data sid 0));
    stack_pages = map child_slot (slots_of p (Stack sid 0));
  }) (fork_space p sid next).due n (child_blank (slots_of p (Data sid 0))) (child_blank (slots_of p (Stack sid 0))) w);
  reads = omega arith;
}

enter_keeps : (p : Placement) (sid image : ℕ) (facts : Option Image) → IsNew p sid → Keeps p (enter_image p sid image facts)
enter_keeps p sid image None n = keeps_self p
enter_keeps p sid image (Some facts) n = record {
  valid = λ w. alike_fewer (slot_of (enter_image p sid image (Some facts)) w) (slot_of p w) (enter_alike p sid image facts n w);
  reads = omega arith;
}

-- All changes.

pub change_keeps : (c : Changing) (p : Placement) (change : Change) → IsNew p c.next_sid
    → Keeps p (place_change c p change)
change_keeps c p Keep n = keeps_self p
change_keeps c p (Resize d s) n = resize_keeps p c.sid d s
change_keeps c p (Fork child) n = let k : Keeps p (fork_space p c.sid c.next_sid) = fork_keeps p c.sid c.next_sid n in record { valid = k.valid; reads = k.reads }
change_keeps c p (Lend child) n = record { valid = λ w h. h; reads = omega arith }
change_keeps c p (Exec image top) n =
    let e : Placement = enter_image p c.next_sid image (facts_numbered c.images image) in
    keeps_both p e (give_up_unless c.borrowed e c.sid) (enter_keeps p c.next_sid image (facts_numbered c.images image) n) (unless_keeps c.borrowed e c.sid)
change_keeps c p (Reap child) n = keeps_self p
change_keeps c p Sleep n = keeps_self p
change_keeps c p (End status) n = let k : Keeps p (give_up_unless c.borrowed p c.sid) = unless_keeps c.borrowed p c.sid in record { valid = k.valid; reads = k.reads }
