-- Which pages lose their frames by a change of a process.
use Rattle.std.proofs.Common.{◌≡◌, ◌≢◌, ◌⊎◌, inl, inr, ℕ, zero, suc, ◌-◌, ◌<◌, ◌≤◌, ◌==◌, Bool, true, false, List, [], ◌∷◌, ◌++◌, get_or, map, Option, Some, None, refl, sym, ap, ◌∙◌, subst, arith}
use Rattle.std.proofs.lemmas.Bool.{cases_eq, eq-eqb}
use Rattle.std.proofs.lemmas.Bool.Decides.{nat_tests}
use Rattle.vm_facts.proofs.Tests.{cases_le}
use Rattle.vm_facts.specs.declared.page.Page.{Page}
use Rattle.vm_facts.specs.declared.page.Page.TheVariants.{Data, Stack, Text}
use Rattle.vm_facts.specs.declared.page.PageState.{PageState}
use Rattle.vm_facts.specs.declared.page.PageState.TheVariants.{Unfilled, Valid, Invalid, Coming, Going, OnSwap}
use Rattle.page_model.specs.Change.{Change}
use Rattle.page_model.specs.Change.TheVariants.{Resize, Fork, Exec, End}
use Rattle.page_model.specs.Pages.{Slot, no_slot, SpacePages, frame_of, numbered, changed, data_in, stack_in}
use Rattle.page_model.specs.Placement.{Placement, space_number, slots_of, slot_of, state_of, image_of, sharers, put}
use Rattle.page_model.specs.Moves.{drop_all, touch, touch_all, turn, listed, leave_by, leave_page, leave_all}
use Rattle.page_model.specs.Place.{Changing, cut_space, resize, data_count, stack_count, data_from, stack_from, child_slot, fork_space, facts_numbered}
use Rattle.page_model.specs.Place.{remove_space, pages_of_space, pages_of_text, leave_text, leave_text_by, give_up, give_up_unless, enter_image, place_change}
use Rattle.page_model.specs.Conditions.{EachPage, IsNew}
use Rattle.vm_facts.specs.Pages.{is_of_space}
use Rattle.page_laws.specs.Leaving.{IsCutOff, IsGivenUp}
use Rattle.page_laws.proofs.Lists.Pages.{mapped, changed_same, changed_other, page_cases, put_state}
use Rattle.page_laws.proofs.Lists.Runs.{each_page_append, pages_from_each}
use Rattle.page_laws.proofs.Moves.Stays.{Steady, turn_steady, steady_both, steady_self}
use Rattle.page_laws.proofs.Ownership.Changes.{Alike, sized_past, sized_within, cut, dropped_pages, add_alike, child_blank, enter_alike, removed_same}
use Rattle.page_laws.proofs.Ownership.Spaces.{there_or, IsBlank, blank_put, drop_all_other}
use Rattle.page_laws.proofs.Bytes.Others.{touch_steady}
use Rattle.page_laws.proofs.Blocks.Changes.{leave_other}
use Rattle.page_laws.proofs.Due.Changes.{give_up_slot}
use Rattle.aout_image.specs.declared.Image.{Image}

abbrev pub page_frame : Placement → Page → Option ℕ
page_frame p w = frame_of (state_of p w)

slot_frame : (p q : Placement) (w : Page) → slot_of q w ≡ slot_of p w → page_frame q w ≡ page_frame p w
slot_frame p q w e = ap (λ (x : Slot). frame_of x.state) e

-- User writes.

pub touch_all_steady : (qs : List Page) (p : Placement) → Steady p (touch_all p qs)
touch_all_steady [] p = steady_self p
touch_all_steady (q ∷ qs) p = steady_both p (touch p q) (touch_all (touch p q) qs) (touch_steady p q) (touch_all_steady qs (touch p q))

-- Other sizes.

pub cut_or : (sid d s : ℕ) (w : Page) → IsCutOff sid d s w ⊎ (IsCutOff sid d s w → ⊥)
cut_or sid d s (Data t v) = elim (cases_eq t sid) [
  | inl e ↦ elim (cases_le d v) [
    | inl l ↦ inl (e, l)
    | inr l ↦ inr (λ k. absurd (let m = k.1 in omega arith))
  ]
  | inr n ↦ inr (λ k. n k.0)
]
cut_or sid d s (Stack t v) = elim (cases_eq t sid) [
  | inl e ↦ elim (cases_le s v) [
    | inl l ↦ inl (e, l)
    | inr l ↦ inr (λ k. absurd (let m = k.1 in omega arith))
  ]
  | inr n ↦ inr (λ k. n k.0)
]
cut_or sid d s (Text image v) = inr (λ k. k)

data_past : (d s v : ℕ) (o : Option SpacePages) → d ≤ v → frame_of (get_or (data_in (mapped (cut d s) o)) v no_slot).state ≡ None
data_past d s v None l = refl
data_past d s v (Some x) l = ap (λ (y : Slot). frame_of y.state) (sized_past d v x.data_pages l)

stack_past : (d s v : ℕ) (o : Option SpacePages) → s ≤ v → frame_of (get_or (stack_in (mapped (cut d s) o)) v no_slot).state ≡ None
stack_past d s v None l = refl
stack_past d s v (Some x) l = ap (λ (y : Slot). frame_of y.state) (sized_past s v x.stack_pages l)

data_within : (d s v : ℕ) (o : Option SpacePages) → v < d → Alike (get_or (data_in (mapped (cut d s) o)) v no_slot) (get_or (data_in o) v no_slot)
data_within d s v None l = (refl, refl)
data_within d s v (Some x) l = sized_within d v x.data_pages l

stack_within : (d s v : ℕ) (o : Option SpacePages) → v < s → Alike (get_or (stack_in (mapped (cut d s) o)) v no_slot) (get_or (stack_in o) v no_slot)
stack_within d s v None l = (refl, refl)
stack_within d s v (Some x) l = sized_within s v x.stack_pages l

cut_past : (p : Placement) (sid d s : ℕ) (w : Page) → IsCutOff sid d s w → page_frame (cut_space p sid d s) w ≡ None
cut_past p sid d s (Data t v) k =
    ap (λ (x : ℕ). frame_of (get_or (data_in (numbered space_number x (changed space_number sid (cut d s) p.spaces))) v no_slot).state) k.0
    ∙ ap (λ (o : Option SpacePages). frame_of (get_or (data_in o) v no_slot).state) (changed_same space_number sid (cut d s) (λ x. refl) p.spaces)
    ∙ data_past d s v (numbered space_number sid p.spaces) k.1
cut_past p sid d s (Stack t v) k =
    ap (λ (x : ℕ). frame_of (get_or (stack_in (numbered space_number x (changed space_number sid (cut d s) p.spaces))) v no_slot).state) k.0
    ∙ ap (λ (o : Option SpacePages). frame_of (get_or (stack_in o) v no_slot).state) (changed_same space_number sid (cut d s) (λ x. refl) p.spaces)
    ∙ stack_past d s v (numbered space_number sid p.spaces) k.1
cut_past p sid d s (Text image v) k = absurd k

pub cut_alike : (p : Placement) (sid d s : ℕ) (w : Page) → (IsCutOff sid d s w → ⊥) → Alike (slot_of (cut_space p sid d s) w) (slot_of p w)
cut_alike p sid d s (Data t v) k =
    let below : t ≡ sid → v < d = λ e. elim (cases_le d v) [
      | inl l ↦ absurd (k (e, l))
      | inr l ↦ l
    ] in
    elim (cases_eq t sid) [
      | inl e ↦ subst (λ (x : ℕ). Alike (get_or (data_in (numbered space_number x (changed space_number sid (cut d s) p.spaces))) v no_slot)
          (get_or (data_in (numbered space_number x p.spaces)) v no_slot)) (sym e)
          (subst (λ (y : Option SpacePages). Alike (get_or (data_in y) v no_slot) (get_or (data_in (numbered space_number sid p.spaces)) v no_slot))
          (sym (changed_same space_number sid (cut d s) (λ x. refl) p.spaces))
          (data_within d s v (numbered space_number sid p.spaces) (below e)))
      | inr n ↦ subst (λ (y : Option SpacePages). Alike (get_or (data_in y) v no_slot) (get_or (data_in (numbered space_number t p.spaces)) v no_slot))
          (sym (changed_other space_number sid t (cut d s) (λ x. refl) n p.spaces)) (refl, refl)
    ]
cut_alike p sid d s (Stack t v) k =
    let below : t ≡ sid → v < s = λ e. elim (cases_le s v) [
      | inl l ↦ absurd (k (e, l))
      | inr l ↦ l
    ] in
    elim (cases_eq t sid) [
      | inl e ↦ subst (λ (x : ℕ). Alike (get_or (stack_in (numbered space_number x (changed space_number sid (cut d s) p.spaces))) v no_slot)
          (get_or (stack_in (numbered space_number x p.spaces)) v no_slot)) (sym e)
          (subst (λ (y : Option SpacePages). Alike (get_or (stack_in y) v no_slot) (get_or (stack_in (numbered space_number sid p.spaces)) v no_slot))
          (sym (changed_same space_number sid (cut d s) (λ x. refl) p.spaces))
          (stack_within d s v (numbered space_number sid p.spaces) (below e)))
      | inr n ↦ subst (λ (y : Option SpacePages). Alike (get_or (stack_in y) v no_slot) (get_or (stack_in (numbered space_number t p.spaces)) v no_slot))
          (sym (changed_other space_number sid t (cut d s) (λ x. refl) n p.spaces)) (refl, refl)
    ]
cut_alike p sid d s (Text image v) k = (refl, refl)

pub not_dropped : (p : Placement) (sid d s : ℕ) (w : Page) → (IsCutOff sid d s w → ⊥) → EachPage (λ r. w ≢ r) (dropped_pages p sid d s)
not_dropped p sid d s w k = each_page_append (λ r. w ≢ r) (data_from sid d (data_count p sid - d)) (stack_from sid s (stack_count p sid - s))
    (pages_from_each (λ r. w ≢ r) (Data sid d) d (data_count p sid - d) (λ v l m e. k (subst (IsCutOff sid d s) (sym e) (refl, l))))
    (pages_from_each (λ r. w ≢ r) (Stack sid s) s (stack_count p sid - s) (λ v l m e. k (subst (IsCutOff sid d s) (sym e) (refl, l))))

-- a page has the frame that it had, or none, and then this is so
abbrev pub StaysOrGoes : Placement → Placement → Page → Type 0 → Type 0
StaysOrGoes p r w why = (page_frame r w ≡ page_frame p w) ⊎ ((page_frame r w ≡ None) × why)

resize_frame : (p : Placement) (sid d s : ℕ) (w : Page) → StaysOrGoes p (resize p sid d s) w (IsCutOff sid d s w)
resize_frame p sid d s w = elim (cut_or sid d s w) [
  | inl k ↦ inr (cut_past (drop_all p (dropped_pages p sid d s)) sid d s w k, k)
  | inr k ↦ inl (ap frame_of (cut_alike (drop_all p (dropped_pages p sid d s)) sid d s w k).0
      ∙ slot_frame p (drop_all p (dropped_pages p sid d s)) w (drop_all_other (dropped_pages p sid d s) p w (not_dropped p sid d s w k)))
]

-- A space that goes.

leave_frame : (p : Placement) (v w : Page) → page_frame (leave_page p v) w ≡ page_frame p w
leave_frame p v w =
    let own : (s : PageState) → state_of p v ≡ s → page_frame (leave_page p v) v ≡ page_frame p v = λ s h. by (state_of p v) (listed p v) refl in
    elim (page_cases w v) [
      | inl e ↦ subst (λ (x : Page). page_frame (leave_page p v) x ≡ page_frame p x) (sym e) (own (state_of p v) refl)
      | inr n ↦ slot_frame p (leave_page p v) w (leave_other p v w n)
    ]
  where
    none : (s : PageState) → state_of p v ≡ s → frame_of s ≡ None → page_frame (put p v Unfilled false) v ≡ page_frame p v
    none s e h = elim (there_or p v) [
      | inl l ↦ ap frame_of (put_state p v Unfilled false l) ∙ sym (ap frame_of e ∙ h)
      | inr l ↦ (let b : IsBlank (put p v Unfilled false) v = blank_put p v in ap frame_of b.state) ∙ sym (ap frame_of e ∙ h)
    ]

    some : (f : ℕ) (free : List ℕ) → page_frame p v ≡ Some f → page_frame (turn p v (Invalid f) false free p.transfers) v ≡ page_frame p v
    some f free h = let t : Steady p (turn p v (Invalid f) false free p.transfers) = turn_steady p v f (Invalid f) false free p.transfers h refl in t.frames v

    idle : (f n : ℕ) → state_of p v ≡ Invalid f → page_frame (leave_by p v (Invalid f) n) v ≡ page_frame p v
    idle f zero h = some f (p.free ++ f ∷ []) (ap frame_of h)
    idle f (suc n) h = some f p.free (ap frame_of h)

    by : (s : PageState) (n : ℕ) → state_of p v ≡ s → page_frame (leave_by p v s n) v ≡ page_frame p v
    by (Valid f) n h = some f (p.free ++ f ∷ []) (ap frame_of h)
    by (Invalid f) n h = idle f n h
    by OnSwap n h = none OnSwap h refl
    by Unfilled n h = none Unfilled h refl
    by (Coming f) n h = refl
    by (Going f) n h = refl

leave_all_frame : (qs : List Page) (p : Placement) (w : Page) → page_frame (leave_all p qs) w ≡ page_frame p w
leave_all_frame [] p w = refl
leave_all_frame (v ∷ qs) p w = leave_all_frame qs (leave_page p v) w ∙ leave_frame p v w

leave_text_frame : (p : Placement) (image : ℕ) (w : Page) → page_frame (leave_text p image) w ≡ page_frame p w
leave_text_frame p image w = go (sharers p image)
  where
    go : (n : ℕ) → page_frame (leave_text_by p image n) w ≡ page_frame p w
    go zero = leave_all_frame (pages_of_text p image) p w
    go (suc n) = refl

removed_frame : (p : Placement) (sid : ℕ) (w : Page) → is_of_space sid w ≡ true → page_frame (remove_space p sid) w ≡ None
removed_frame p sid (Data t v) e =
    let is_equal : (a b : ℕ) → (a == b) ≡ true → a ≡ b = λ a b h. grind (arith, nat_tests) in
    ap (λ (x : ℕ). frame_of (get_or (data_in (numbered space_number x (remove_space p sid).spaces)) v no_slot).state) (is_equal t sid e)
    ∙ ap (λ (o : Option SpacePages). frame_of (get_or (data_in o) v no_slot).state) (removed_same sid p.spaces)
removed_frame p sid (Stack t v) e =
    let is_equal : (a b : ℕ) → (a == b) ≡ true → a ≡ b = λ a b h. grind (arith, nat_tests) in
    ap (λ (x : ℕ). frame_of (get_or (stack_in (numbered space_number x (remove_space p sid).spaces)) v no_slot).state) (is_equal t sid e)
    ∙ ap (λ (o : Option SpacePages). frame_of (get_or (stack_in o) v no_slot).state) (removed_same sid p.spaces)
removed_frame p sid (Text image v) e = absurd cc

text_not_dropped : (image v sid dn sn : ℕ) → EachPage (λ r. Text image v ≢ r) (data_from sid 0 dn ++ stack_from sid 0 sn)
text_not_dropped image v sid dn sn = each_page_append (λ r. Text image v ≢ r) (data_from sid 0 dn) (stack_from sid 0 sn)
    (pages_from_each (λ r. Text image v ≢ r) (Data sid 0) 0 dn (λ w l m e. absurd cc))
    (pages_from_each (λ r. Text image v ≢ r) (Stack sid 0) 0 sn (λ w l m e. absurd cc))

give_up_frame : (p : Placement) (sid : ℕ) (w : Page) → StaysOrGoes p (give_up p sid) w (is_of_space sid w ≡ true)
give_up_frame p sid w = go w
  where
    d : Placement
    d = drop_all p (pages_of_space p sid)

    gone : (x : Page) → is_of_space sid x ≡ true → page_frame (give_up p sid) x ≡ None
    gone x e = leave_text_frame (remove_space d sid) (image_of p sid) x ∙ removed_frame d sid x e

    go : (x : Page) → StaysOrGoes p (give_up p sid) x (is_of_space sid x ≡ true)
    go (Data t v) = elim (cases_eq t sid) [
      | inl e ↦ inr (gone (Data t v) (eq-eqb t sid e), eq-eqb t sid e)
      | inr n ↦ inl (slot_frame p (give_up p sid) (Data t v) (give_up_slot p sid (Data t v) tt n))
    ]
    go (Stack t v) = elim (cases_eq t sid) [
      | inl e ↦ inr (gone (Stack t v) (eq-eqb t sid e), eq-eqb t sid e)
      | inr n ↦ inl (slot_frame p (give_up p sid) (Stack t v) (give_up_slot p sid (Stack t v) tt n))
    ]
    go (Text image v) = inl (leave_text_frame (remove_space d sid) (image_of p sid) (Text image v)
        ∙ slot_frame p d (Text image v) (drop_all_other (pages_of_space p sid) p (Text image v) (text_not_dropped image v sid (data_count p sid) (stack_count p sid))))

unless_frame : (borrowed : Bool) (p : Placement) (sid : ℕ) (w : Page)
    → StaysOrGoes p (give_up_unless borrowed p sid) w ((borrowed ≡ false) × (is_of_space sid w ≡ true))
unless_frame true p sid w = inl refl
unless_frame false p sid w = elim (give_up_frame p sid w) [
  | inl e ↦ inl e
  | inr e ↦ inr (e.0, (refl, e.1))
]

-- All changes.

enter_frame : (p : Placement) (sid image : ℕ) (facts : Option Image) (w : Page) → IsNew p sid → page_frame (enter_image p sid image facts) w ≡ page_frame p w
enter_frame p sid image None w n = refl
enter_frame p sid image (Some facts) w n = ap frame_of (enter_alike p sid image facts n w).0

pub change_frame : (c : Changing) (p : Placement) (change : Change) (w : Page) → IsNew p c.next_sid
    → StaysOrGoes p (place_change c p change) w (IsGivenUp c.sid c.borrowed change w)
change_frame c p (Resize d s) w n = resize_frame p c.sid d s w
change_frame c p (Fork child) w n = inl (ap frame_of (add_alike p (record {
  sid = c.next_sid;
  image = image_of p c.sid;
  data_pages = map child_slot (slots_of p (Data c.sid 0));
  stack_pages = map child_slot (slots_of p (Stack c.sid 0));
}) (fork_space p c.sid c.next_sid).due n (child_blank (slots_of p (Data c.sid 0))) (child_blank (slots_of p (Stack c.sid 0))) w).0)
change_frame c p (Exec image top) w n =
    let e : page_frame (enter_image p c.next_sid image (facts_numbered c.images image)) w ≡ page_frame p w = enter_frame p c.next_sid image (facts_numbered c.images image) w n in
    elim (unless_frame c.borrowed (enter_image p c.next_sid image (facts_numbered c.images image)) c.sid w) [
      | inl h ↦ inl (h ∙ e)
      | inr h ↦ inr h
    ]
change_frame c p (End status) w n = unless_frame c.borrowed p c.sid w
change_frame c p _ w n = inl refl
