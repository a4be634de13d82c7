-- A clean page stays so through the changes of processes, but where its text is given back.
use Rattle.std.proofs.Common.{◌≡◌, ◌≢◌, ◌⊎◌, inl, inr, ℕ, zero, suc, ◌-◌, ◌<◌, ◌≤◌, Bool, true, false, List, [], ◌∷◌, ◌++◌, length, get_or, map, Option, Some, None, refl, sym, ap, ◌∙◌, subst, arith}
use Rattle.std.proofs.lemmas.Bool.{cases_eq, or_parts}
use Rattle.flat_state.specs.Flat.{FlatState}
use Rattle.vm_facts.specs.declared.page.Page.{Page}
use Rattle.vm_facts.specs.declared.page.Page.TheVariants.{Data, Stack, Text}
use Rattle.vm_facts.specs.declared.page.PageState.{PageState}
use Rattle.vm_facts.specs.declared.page.PageState.TheVariants.{Unfilled, Valid, Invalid, Coming, Going, OnSwap}
use Rattle.flat_state.specs.declared.change.Change.{Change}
use Rattle.flat_state.specs.declared.change.Change.TheVariants.{Resize, Fork, Exec, End}
use Rattle.page_model.specs.Pages.{Slot, no_slot, SpacePages, numbered, changed, data_in, stack_in, is_dirty_by, frame_of}
use Rattle.flat_state.specs.PageNames.{same_page, is_among}
use Rattle.page_model.specs.Placement.{Placement, Due, space_number, slots_of, state_of, image_of, sharers, new_pages}
use Rattle.page_model.specs.Moves.{touch, touch_to, touch_all, drop_at, drop_page, drop_all}
use Rattle.page_model.specs.Place.{Changing, changing_in, sized, cut_space, resize, data_count, stack_count, data_from, stack_from, child_slot, fork_space, enter_space, remove_space, pages_of_space, pages_of_text, leave_text, leave_text_by, give_up, give_up_unless, enter_image, place_change, place_step, facts_numbered}
use Rattle.page_model.specs.Conditions.{EachPage}
use Rattle.page_laws.proofs.Lists.Pages.{mapped, changed_same, changed_other}
use Rattle.flat_state.proofs.PageNames.{same_page_self}
use Rattle.page_laws.proofs.Lists.Runs.{each_page_append, pages_from_each}
use Rattle.page_laws.proofs.Ownership.Changes.{Alike, BlankSlot, AllBlank, blank_slot_at, child_blank, unfilled_blank, sized_past, sized_within, cut, numbered_hit, numbered_miss, removed_other, removed_same, dropped_pages}
use Rattle.page_laws.proofs.Due.Changes.{leave_all_other}
use Rattle.run_laws.proofs.Sizes.{leave_text_sharers}
use Rattle.economy_laws.proofs.Calm.{is_going, CalmSlot, Calm, put_calm, is_text}
use Rattle.aout_image.specs.declared.Image.{Image}

-- User writes.

touch_calm : (p : Placement) (v w : Page) → (w ≡ v → is_dirty_by v true ≡ false) → Calm p w → Calm (touch p v) w
touch_calm p v w h c = go v h (state_of p v)
  where
    go : (v : Page) → (w ≡ v → is_dirty_by v true ≡ false) → (s : PageState) → Calm (touch_to p v s) w
    go (Data sid n) h (Valid f) = put_calm p (Data sid n) (Valid f) true w (λ e. (h e, refl)) c
    go (Data sid n) h Unfilled = c
    go (Data sid n) h (Invalid f) = c
    go (Data sid n) h (Coming f) = c
    go (Data sid n) h (Going f) = c
    go (Data sid n) h OnSwap = c
    go (Stack sid n) h (Valid f) = put_calm p (Stack sid n) (Valid f) true w (λ e. (h e, refl)) c
    go (Stack sid n) h Unfilled = c
    go (Stack sid n) h (Invalid f) = c
    go (Stack sid n) h (Coming f) = c
    go (Stack sid n) h (Going f) = c
    go (Stack sid n) h OnSwap = c
    go (Text image n) h s = c

pub text_clean : (v : Page) → is_text v ≡ true → is_dirty_by v true ≡ false
text_clean (Text image n) e = refl
text_clean _ e = absurd cc

-- a page that isn't among these, or of text
abbrev pub Untouched : List Page → Page → Type 0
Untouched qs w = (is_text w ≡ true) ⊎ (is_among w qs ≡ false)

pub touch_all_calm : (qs : List Page) (p : Placement) (w : Page) → Untouched qs w → Calm p w → Calm (touch_all p qs) w
touch_all_calm [] p w u c = c
touch_all_calm (v ∷ qs) p w (inl t) c = touch_all_calm qs (touch p v) w (inl t) (touch_calm p v w (λ e. text_clean v (ap is_text (sym e) ∙ t)) c)
touch_all_calm (v ∷ qs) p w (inr n) c = let k = or_parts (same_page w v) (is_among w qs) n in
    touch_all_calm qs (touch p v) w (inr k.1) (touch_calm p v w (λ e. absurd (let z : true ≡ false = sym (same_page_self w) ∙ ap (same_page w) e ∙ k.0 in cc)) c)

-- Pages that go.

abbrev pub Drops : List Page → Type 0
Drops qs = EachPage (λ v. is_dirty_by v false ≡ false) qs

drop_calm : (p : Placement) (v w : Page) → is_dirty_by v false ≡ false → Calm p w → Calm (drop_page p v) w
drop_calm p v w d c = go (frame_of (state_of p v))
  where
    go : (h : Option ℕ) → Calm (drop_at p v h) w
    go None = put_calm p v Unfilled false w (λ e. (d, refl)) c
    go (Some f) = put_calm p v Unfilled false w (λ e. (d, refl)) c

drop_all_calm : (qs : List Page) (p : Placement) (w : Page) → Drops qs → Calm p w → Calm (drop_all p qs) w
drop_all_calm [] p w d c = c
drop_all_calm (v ∷ qs) p w d c = drop_all_calm qs (drop_page p v) w d.1 (drop_calm p v w d.0 c)

segments_drop : (sid a m b n : ℕ) → Drops (data_from sid a m ++ stack_from sid b n)
segments_drop sid a m b n = each_page_append (λ v. is_dirty_by v false ≡ false) (data_from sid a m) (stack_from sid b n)
    (pages_from_each (λ v. is_dirty_by v false ≡ false) (Data sid a) a m (λ w l k. refl))
    (pages_from_each (λ v. is_dirty_by v false ≡ false) (Stack sid b) b n (λ w l k. refl))

-- Sizes.

alike_calm : (w : Page) (x y : Slot) → Alike x y → CalmSlot w y → CalmSlot w x
alike_calm w x y a c = (ap (is_dirty_by w) a.1 ∙ c.0, ap is_going a.0 ∙ c.1)

blank_calm : (w : Page) (x : Slot) → is_dirty_by w false ≡ false → BlankSlot x → CalmSlot w x
blank_calm w x d b = (ap (is_dirty_by w) b.1 ∙ d, ap is_going b.0)

sized_calm : (v : Page) (n w : ℕ) (xs : List Slot) → is_dirty_by v false ≡ false → CalmSlot v (get_or xs w no_slot) → CalmSlot v (get_or (sized n xs) w no_slot)
sized_calm v n w xs d c =
    let le_or : (a b : ℕ) → (a < b) ⊎ (b ≤ a) = λ a b. grind arith in
    elim (le_or w n) [
      | inl l ↦ alike_calm v (get_or (sized n xs) w no_slot) (get_or xs w no_slot) (sized_within n w xs l) c
      | inr l ↦ subst (CalmSlot v) (sym (sized_past n w xs l)) (d, refl)
    ]

cut_data : (v : Page) (d s w : ℕ) (o : Option SpacePages) → is_dirty_by v false ≡ false → CalmSlot v (get_or (data_in o) w no_slot)
    → CalmSlot v (get_or (data_in (mapped (cut d s) o)) w no_slot)
cut_data v d s w None k c = c
cut_data v d s w (Some x) k c = sized_calm v d w x.data_pages k c

cut_stack : (v : Page) (d s w : ℕ) (o : Option SpacePages) → is_dirty_by v false ≡ false → CalmSlot v (get_or (stack_in o) w no_slot)
    → CalmSlot v (get_or (stack_in (mapped (cut d s) o)) w no_slot)
cut_stack v d s w None k c = c
cut_stack v d s w (Some x) k c = sized_calm v s w x.stack_pages k c

cut_calm : (p : Placement) (sid d s : ℕ) (w : Page) → Calm p w → Calm (cut_space p sid d s) w
cut_calm p sid d s (Data t w) c = elim (cases_eq t sid) [
  | inl e ↦ subst (λ (x : ℕ). CalmSlot (Data t w) (get_or (data_in (numbered space_number x p.spaces)) w no_slot)
      → CalmSlot (Data t w) (get_or (data_in (numbered space_number x (changed space_number sid (cut d s) p.spaces))) w no_slot)) (sym e)
      (λ k. subst (λ (y : Option SpacePages). CalmSlot (Data t w) (get_or (data_in y) w no_slot)) (sym (changed_same space_number sid (cut d s) (λ x. refl) p.spaces))
      (cut_data (Data t w) d s w (numbered space_number sid p.spaces) refl k)) c
  | inr n ↦ subst (λ (y : Option SpacePages). CalmSlot (Data t w) (get_or (data_in y) w no_slot)) (sym (changed_other space_number sid t (cut d s) (λ x. refl) n p.spaces)) c
]
cut_calm p sid d s (Stack t w) c = elim (cases_eq t sid) [
  | inl e ↦ subst (λ (x : ℕ). CalmSlot (Stack t w) (get_or (stack_in (numbered space_number x p.spaces)) w no_slot)
      → CalmSlot (Stack t w) (get_or (stack_in (numbered space_number x (changed space_number sid (cut d s) p.spaces))) w no_slot)) (sym e)
      (λ k. subst (λ (y : Option SpacePages). CalmSlot (Stack t w) (get_or (stack_in y) w no_slot)) (sym (changed_same space_number sid (cut d s) (λ x. refl) p.spaces))
      (cut_stack (Stack t w) d s w (numbered space_number sid p.spaces) refl k)) c
  | inr n ↦ subst (λ (y : Option SpacePages). CalmSlot (Stack t w) (get_or (stack_in y) w no_slot)) (sym (changed_other space_number sid t (cut d s) (λ x. refl) n p.spaces)) c
]
cut_calm p sid d s (Text i w) c = c

resize_calm : (p : Placement) (sid d s : ℕ) (w : Page) → Calm p w → Calm (resize p sid d s) w
resize_calm p sid d s w c = cut_calm (drop_all p (dropped_pages p sid d s)) sid d s w
    (drop_all_calm (dropped_pages p sid d s) p w (segments_drop sid d (data_count p sid - d) s (stack_count p sid - s)) c)

-- A new space.

added_either : (t : ℕ) (ss : List SpacePages) (x : SpacePages)
    → (numbered space_number t (ss ++ x ∷ []) ≡ numbered space_number t ss) ⊎ (numbered space_number t (ss ++ x ∷ []) ≡ Some x)
added_either t [] x = elim (cases_eq (space_number x) t) [
  | inl e ↦ inr (numbered_hit t x [] e)
  | inr n ↦ inl (numbered_miss t x [] n)
]
added_either t (s ∷ ss) x = elim (cases_eq (space_number s) t) [
  | inl e ↦ inl (numbered_hit t s (ss ++ x ∷ []) e ∙ sym (numbered_hit t s ss e))
  | inr n ↦ elim (added_either t ss x) [
    | inl k ↦ inl (numbered_miss t s (ss ++ x ∷ []) n ∙ k ∙ sym (numbered_miss t s ss n))
    | inr k ↦ inr (numbered_miss t s (ss ++ x ∷ []) n ∙ k)
  ]
]

add_calm : (p : Placement) (x : SpacePages) (due : List Due) (w : Page) → AllBlank x.data_pages → AllBlank x.stack_pages → Calm p w
    → Calm (record p { spaces = p.spaces ++ x ∷ []; due = due }) w
add_calm p x due (Data t w) bd bs c = elim (added_either t p.spaces x) [
  | inl e ↦ subst (λ (y : Option SpacePages). CalmSlot (Data t w) (get_or (data_in y) w no_slot)) (sym e) c
  | inr e ↦ subst (λ (y : Option SpacePages). CalmSlot (Data t w) (get_or (data_in y) w no_slot)) (sym e) (blank_calm (Data t w) (get_or x.data_pages w no_slot) refl (blank_slot_at x.data_pages w bd))
]
add_calm p x due (Stack t w) bd bs c = elim (added_either t p.spaces x) [
  | inl e ↦ subst (λ (y : Option SpacePages). CalmSlot (Stack t w) (get_or (stack_in y) w no_slot)) (sym e) c
  | inr e ↦ subst (λ (y : Option SpacePages). CalmSlot (Stack t w) (get_or (stack_in y) w no_slot)) (sym e)
      (blank_calm (Stack t w) (get_or x.stack_pages w no_slot) refl (blank_slot_at x.stack_pages w bs))
]
add_calm p x due (Text i w) bd bs c = c

fork_calm : (p : Placement) (parent child : ℕ) (w : Page) → Calm p w → Calm (fork_space p parent child) w
fork_calm p parent child w c = add_calm p (record {
  sid = child;
  image = image_of p parent;
  data_pages = map child_slot (slots_of p (Data parent 0));
  stack_pages = map child_slot (slots_of p (Stack parent 0));
}) (fork_space p parent child).due w (child_blank (slots_of p (Data parent 0))) (child_blank (slots_of p (Stack parent 0))) c

enter_calm : (p : Placement) (sid image : ℕ) (facts : Option Image) (w : Page) → Calm p w → Calm (enter_image p sid image facts) w
enter_calm p sid image None w c = c
enter_calm p sid image (Some facts) w c = add_calm p (new_pages sid image facts) (enter_space p sid image facts).due w
    (unfilled_blank facts 0 (Rattle.aout_image.specs.Image.image_data_pages facts)) ((refl, refl), tt) c

-- A space that goes, and its text.

remove_calm : (p : Placement) (sid : ℕ) (w : Page) → Calm p w → Calm (remove_space p sid) w
remove_calm p sid (Data t w) c = elim (cases_eq t sid) [
  | inl e ↦ subst (λ (x : ℕ). CalmSlot (Data t w) (get_or (data_in (numbered space_number x (remove_space p sid).spaces)) w no_slot)) (sym e)
      (subst (λ (y : Option SpacePages). CalmSlot (Data t w) (get_or (data_in y) w no_slot)) (sym (removed_same sid p.spaces)) (refl, refl))
  | inr n ↦ subst (λ (y : Option SpacePages). CalmSlot (Data t w) (get_or (data_in y) w no_slot)) (sym (removed_other sid t p.spaces n)) c
]
remove_calm p sid (Stack t w) c = elim (cases_eq t sid) [
  | inl e ↦ subst (λ (x : ℕ). CalmSlot (Stack t w) (get_or (stack_in (numbered space_number x (remove_space p sid).spaces)) w no_slot)) (sym e)
      (subst (λ (y : Option SpacePages). CalmSlot (Stack t w) (get_or (stack_in y) w no_slot)) (sym (removed_same sid p.spaces)) (refl, refl))
  | inr n ↦ subst (λ (y : Option SpacePages). CalmSlot (Stack t w) (get_or (stack_in y) w no_slot)) (sym (removed_other sid t p.spaces n)) c
]
remove_calm p sid (Text i w) c = c

-- where it is a text page, its image is shared
abbrev pub TextShared : Placement → Page → Type 0
TextShared p w = (image v : ℕ) → w ≡ Text image v → sharers p image ≡ 0 → ⊥

leave_text_calm : (p : Placement) (image : ℕ) (w : Page) → TextShared p w → Calm p w → Calm (leave_text p image) w
leave_text_calm p image w h c = go (sharers p image) refl
  where
    go : (n : ℕ) → sharers p image ≡ n → Calm (leave_text_by p image n) w
    go zero e = subst (CalmSlot w) (sym (leave_all_other (pages_of_text p image) p w (pages_from_each (λ r. w ≢ r) (Text image 0) 0 (length (slots_of p (Text image 0))) (λ x l m k. h image x k e)))) c
    go (suc n) e = c

give_up_calm : (p : Placement) (sid : ℕ) (w : Page) → TextShared (give_up p sid) w → Calm p w → Calm (give_up p sid) w
give_up_calm p sid w h c =
    let r : Placement = remove_space (drop_all p (pages_of_space p sid)) sid in
    leave_text_calm r (image_of p sid) w (λ image v e z. h image v e (leave_text_sharers r (image_of p sid) image ∙ z))
    (remove_calm (drop_all p (pages_of_space p sid)) sid w (drop_all_calm (pages_of_space p sid) p w (segments_drop sid 0 (data_count p sid) 0 (stack_count p sid)) c))

unless_calm : (borrowed : Bool) (p : Placement) (sid : ℕ) (w : Page) → TextShared (give_up_unless borrowed p sid) w → Calm p w
    → Calm (give_up_unless borrowed p sid) w
unless_calm true p sid w h c = c
unless_calm false p sid w h c = give_up_calm p sid w h c

-- Each change.

pub change_calm : (who : Changing) (p : Placement) (change : Change) (w : Page)
    → TextShared (place_change who p change) w → Calm p w → Calm (place_change who p change) w
change_calm who p (Resize d s) w h c = resize_calm p who.sid d s w c
change_calm who p (Fork child) w h c = fork_calm p who.sid who.next_sid w c
change_calm who p (Exec image top) w h c =
    unless_calm who.borrowed (enter_image p who.next_sid image (facts_numbered who.images image)) who.sid w h (enter_calm p who.next_sid image (facts_numbered who.images image) w c)
change_calm who p (End status) w h c = unless_calm who.borrowed p who.sid w h c
change_calm who p _ w h c = c

pub place_step_calm : (images : List Image) (flat : FlatState) (pid at : ℕ) (written : List Page) (change : Change) (p : Placement) (w : Page)
    → Untouched written w
    → TextShared (place_step images flat pid at written change p) w → Calm p w → Calm (place_step images flat pid at written change p) w
place_step_calm images flat pid at written change p w u h c =
    change_calm (changing_in images flat pid at) (touch_all p written) change w h (touch_all_calm written p w u c)
