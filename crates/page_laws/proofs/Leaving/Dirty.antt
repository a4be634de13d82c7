-- Dirty pages stay dirty in their frames through a change of a process, unless it gives them up.
use Rattle.std.proofs.Common.{◌≡◌, ◌⊎◌, inl, inr, ℕ, Bool, true, false, List, [], ◌∷◌, map, Option, Some, None, refl, ap, ◌∙◌}
use Rattle.std.proofs.lemmas.Bool.{cases_eq, eq-eqb}
use Rattle.vm_facts.specs.declared.page.Page.{Page}
use Rattle.vm_facts.specs.declared.page.Page.TheVariants.{Data, Stack, Text}
use Rattle.vm_facts.specs.declared.page.PageState.{PageState}
use Rattle.vm_facts.specs.declared.page.PageState.TheVariants.{Unfilled, Valid, Invalid, Coming, Going, OnSwap}
use Rattle.page_model.specs.Change.{Change}
use Rattle.page_model.specs.Change.TheVariants.{Resize, Fork, Lend, Exec, End}
use Rattle.page_model.specs.Pages.{Slot, frame_of}
use Rattle.page_model.specs.Placement.{Placement, slots_of, slot_of, state_of, mark_of, image_of}
use Rattle.page_model.specs.Moves.{drop_all, touch, touch_to, touch_all}
use Rattle.page_model.specs.Place.{Changing, resize, child_slot, fork_space, give_up, give_up_unless, enter_image, place_change, facts_numbered}
use Rattle.page_model.specs.Conditions.{IsNew}
use Rattle.page_model.specs.Ownership.{is_marked_dirty}
use Rattle.vm_facts.specs.Pages.{is_of_space}
use Rattle.page_laws.specs.Leaving.{IsGivenUp, IsCutOff, IsDirtyIn}
use Rattle.page_laws.proofs.Lists.Pages.{page_cases, put_mark, put_other}
use Rattle.page_laws.proofs.Moves.Steps.{page_in}
use Rattle.page_laws.proofs.Moves.Stays.{Steady}
use Rattle.page_laws.proofs.Ownership.Changes.{Alike, dropped_pages, add_alike, child_blank, enter_alike}
use Rattle.page_laws.proofs.Ownership.Spaces.{drop_all_other}
use Rattle.page_laws.proofs.Bytes.Others.{touch_steady}
use Rattle.page_laws.proofs.Due.Changes.{give_up_slot}
use Rattle.page_laws.proofs.Leaving.Changes.{cut_or, cut_alike, not_dropped}
use Rattle.aout_image.specs.declared.Image.{Image}

alike_dirty : (p r : Placement) (w : Page) (f : ℕ) → Alike (slot_of r w) (slot_of p w) → IsDirtyIn p w f → IsDirtyIn r w f
alike_dirty p r w f a d = record { frame = ap frame_of a.0 ∙ d.frame; dirty = ap (is_marked_dirty w) a.1 ∙ d.dirty }

slot_dirty : (p r : Placement) (w : Page) (f : ℕ) → slot_of r w ≡ slot_of p w → IsDirtyIn p w f → IsDirtyIn r w f
slot_dirty p r w f e = alike_dirty p r w f (ap (λ (x : Slot). x.state) e, ap (λ (x : Slot). x.mark) e)

-- User writes make pages dirty alone.

touch_dirty : (p : Placement) (v w : Page) (f : ℕ) → IsDirtyIn p w f → IsDirtyIn (touch p v) w f
touch_dirty p v w f d = record { frame = (let s : Steady p (touch p v) = touch_steady p v in s.frames w) ∙ d.frame; dirty = go v (state_of p v) refl }
  where
    go : (v : Page) (s : PageState) → state_of p v ≡ s → is_marked_dirty w (mark_of (touch_to p v s) w) ≡ true
    go (Data sid n) (Valid g) e = elim (page_cases w (Data sid n)) [
      | inl h ↦ ap (λ (x : Page). is_marked_dirty x (mark_of (touch_to p (Data sid n) (Valid g)) x)) h ∙ put_mark p (Data sid n) (Valid g) true (page_in p (Data sid n) g (ap frame_of e))
      | inr h ↦ ap (λ (x : Slot). is_marked_dirty w x.mark) (put_other p (Data sid n) (Valid g) true w h) ∙ d.dirty
    ]
    go (Stack sid n) (Valid g) e = elim (page_cases w (Stack sid n)) [
      | inl h ↦ ap (λ (x : Page). is_marked_dirty x (mark_of (touch_to p (Stack sid n) (Valid g)) x)) h ∙ put_mark p (Stack sid n) (Valid g) true (page_in p (Stack sid n) g (ap frame_of e))
      | inr h ↦ ap (λ (x : Slot). is_marked_dirty w x.mark) (put_other p (Stack sid n) (Valid g) true w h) ∙ d.dirty
    ]
    go (Text image n) s e = d.dirty
    go v Unfilled e = untouched v
      where
        untouched : (v : Page) → is_marked_dirty w (mark_of (touch_to p v Unfilled) w) ≡ true
        untouched (Data sid n) = d.dirty
        untouched (Stack sid n) = d.dirty
        untouched (Text image n) = d.dirty
    go (Data sid n) (Invalid g) e = d.dirty
    go (Data sid n) (Coming g) e = d.dirty
    go (Data sid n) (Going g) e = d.dirty
    go (Data sid n) OnSwap e = d.dirty
    go (Stack sid n) (Invalid g) e = d.dirty
    go (Stack sid n) (Coming g) e = d.dirty
    go (Stack sid n) (Going g) e = d.dirty
    go (Stack sid n) OnSwap e = d.dirty

pub touch_all_dirty : (qs : List Page) (p : Placement) (w : Page) (f : ℕ) → IsDirtyIn p w f → IsDirtyIn (touch_all p qs) w f
touch_all_dirty [] p w f d = d
touch_all_dirty (q ∷ qs) p w f d = touch_all_dirty qs (touch p q) w f (touch_dirty p q w f d)

-- Changes.

resize_dirty : (p : Placement) (sid d s : ℕ) (w : Page) (f : ℕ) → IsDirtyIn p w f → IsDirtyIn (resize p sid d s) w f ⊎ IsCutOff sid d s w
resize_dirty p sid d s w f h = elim (cut_or sid d s w) [
  | inl k ↦ inr k
  | inr k ↦ inl (alike_dirty (drop_all p (dropped_pages p sid d s)) (resize p sid d s) w f (cut_alike (drop_all p (dropped_pages p sid d s)) sid d s w k)
      (slot_dirty p (drop_all p (dropped_pages p sid d s)) w f (drop_all_other (dropped_pages p sid d s) p w (not_dropped p sid d s w k)) h))
]

give_up_dirty : (p : Placement) (sid : ℕ) (w : Page) (f : ℕ) → IsDirtyIn p w f → IsDirtyIn (give_up p sid) w f ⊎ (is_of_space sid w ≡ true)
give_up_dirty p sid (Data t v) f h = elim (cases_eq t sid) [
  | inl e ↦ inr (eq-eqb t sid e)
  | inr n ↦ inl (slot_dirty p (give_up p sid) (Data t v) f (give_up_slot p sid (Data t v) tt n) h)
]
give_up_dirty p sid (Stack t v) f h = elim (cases_eq t sid) [
  | inl e ↦ inr (eq-eqb t sid e)
  | inr n ↦ inl (slot_dirty p (give_up p sid) (Stack t v) f (give_up_slot p sid (Stack t v) tt n) h)
]
give_up_dirty p sid (Text image v) f h = absurd (let k = h.dirty in cc)

unless_dirty : (borrowed : Bool) (p : Placement) (sid : ℕ) (w : Page) (f : ℕ) → IsDirtyIn p w f
    → IsDirtyIn (give_up_unless borrowed p sid) w f ⊎ ((borrowed ≡ false) × (is_of_space sid w ≡ true))
unless_dirty true p sid w f h = inl h
unless_dirty false p sid w f h = elim (give_up_dirty p sid w f h) [
  | inl k ↦ inl k
  | inr k ↦ inr (refl, k)
]

enter_dirty : (p : Placement) (sid image : ℕ) (facts : Option Image) (w : Page) (f : ℕ) → IsNew p sid → IsDirtyIn p w f
    → IsDirtyIn (enter_image p sid image facts) w f
enter_dirty p sid image None w f n h = h
enter_dirty p sid image (Some facts) w f n h = alike_dirty p (enter_image p sid image (Some facts)) w f (enter_alike p sid image facts n w) h

pub change_dirty : (c : Changing) (p : Placement) (change : Change) (w : Page) (f : ℕ)
    → IsNew p c.next_sid → IsDirtyIn p w f
    → IsDirtyIn (place_change c p change) w f ⊎ IsGivenUp c.sid c.borrowed change w
change_dirty c p (Resize d s) w f n h = resize_dirty p c.sid d s w f h
change_dirty c p (Fork child) w f n h =
    let k = alike_dirty p (fork_space p c.sid c.next_sid) w f (add_alike p (record {
      sid = c.next_sid;
      image = image_of p c.sid;
      data_pages = map child_slot (slots_of p (Data c.sid 0));
      stack_pages = map child_slot (slots_of p (Stack c.sid 0));
    }) (fork_space p c.sid c.next_sid).due n (child_blank (slots_of p (Data c.sid 0))) (child_blank (slots_of p (Stack c.sid 0))) w) h in
    inl (record { frame = k.frame; dirty = k.dirty })
change_dirty c p (Lend child) w f n h = inl (record { frame = h.frame; dirty = h.dirty })
change_dirty c p (Exec image top) w f n h =
    unless_dirty c.borrowed (enter_image p c.next_sid image (facts_numbered c.images image)) c.sid w f (enter_dirty p c.next_sid image (facts_numbered c.images image) w f n h)
change_dirty c p (End status) w f n h = elim (unless_dirty c.borrowed p c.sid w f h) [
  | inl k ↦ inl (record { frame = k.frame; dirty = k.dirty })
  | inr k ↦ inr k
]
change_dirty c p _ w f n h = inl h
