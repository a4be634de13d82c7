-- Spaces that grow, shrink, come and go keep the ownership of frames.
use Rattle.std.proofs.Common.{◌≡◌, ◌≢◌, ◌⊎◌, inl, inr, ℕ, zero, suc, ◌+◌, ◌-◌, ◌<◌, ◌≤◌, ◌==◌, Bool, true, false, not, cond, List, [], ◌∷◌, ◌++◌, length, get_or, map, filter, Option, Some, None, refl, sym, ap, ◌∙◌, subst, arith}
use Rattle.std.proofs.lemmas.Bool.{cases_eq}
use Rattle.std.proofs.lemmas.Bool.Decides.{nat_tests}
use Rattle.std.proofs.lemmas.List.{get_or_past}
use Rattle.vm_facts.specs.declared.page.Page.{Page}
use Rattle.vm_facts.specs.declared.page.Page.TheVariants.{Data, Stack, Text}
use Rattle.vm_facts.specs.declared.page.PageState.{PageState}
use Rattle.vm_facts.specs.declared.page.PageState.TheVariants.{Unfilled, Valid, Invalid, Coming, Going, OnSwap}
use Rattle.aout_image.specs.declared.Image.{Image}
use Rattle.page_model.specs.Pages.{Slot, no_slot, SpacePages, numbered, changed, data_in, stack_in}
use Rattle.page_model.specs.PageNames.{number_of, beside, pages_from}
use Rattle.page_model.specs.Placement.{Placement, Due, space_number, slots_of, slot_of, state_of, image_of, sharers, unfilled_data, new_pages}
use Rattle.page_model.specs.Moves.{drop_all, touch, touch_all}
use Rattle.page_model.specs.Place.{sized, cut_space, resize, data_count, stack_count, data_from, stack_from, child_slot, child_slot_by, fork_space, enter_space, remove_space, pages_of_space, pages_of_text, leave_text, leave_text_by, give_up, begin_residence, end_residence}
use Rattle.page_model.specs.Ownership.{OwnsFrames, is_marked_dirty}
use Rattle.page_model.specs.Conditions.{EachPage, AtRest, IsNew}
use Rattle.page_laws.proofs.Lists.Pages.{mapped, changed_same, changed_other}
use Rattle.page_laws.proofs.Ownership.Pages.{touch_owner}
use Rattle.page_laws.proofs.Ownership.Spaces.{reshaped_owner, IsBlank, drop_all_owner, drop_all_blank, drop_all_length, leave_all_owner}

-- What is asked of a slot: its state and its mark.
abbrev pub Alike : Slot → Slot → Type 0
Alike x y = (x.state ≡ y.state) × (x.mark ≡ y.mark)

abbrev pub BlankSlot : Slot → Type 0
BlankSlot x = (x.state ≡ Unfilled) × (x.mark ≡ false)

blank_alike : (x y : Slot) → BlankSlot x → BlankSlot y → Alike x y
blank_alike x y a b = (a.0 ∙ sym b.0, a.1 ∙ sym b.1)

-- the same frames and transfers, and each page's slot alike
pub alike_owner : (p q : Placement) → OwnsFrames p → q.holds ≡ p.holds → q.free ≡ p.free → q.transfers ≡ p.transfers
    → ((w : Page) → Alike (slot_of q w) (slot_of p w)) → OwnsFrames q
alike_owner p q o h f t a = reshaped_owner p q o (record { holds = h; free = f; transfers = t; states = λ w. (a w).0; marks = λ w. ap (is_marked_dirty w) (a w).1 })

-- Sizes.

pub sized_past : (n w : ℕ) (xs : List Slot) → n ≤ w → get_or (sized n xs) w no_slot ≡ no_slot
sized_past zero w xs l = refl
sized_past (suc n) zero xs l = absurd (omega arith)
sized_past (suc n) (suc w) [] l = sized_past n w [] (omega arith)
sized_past (suc n) (suc w) (x ∷ xs) l = sized_past n w xs (omega arith)

pub sized_within : (n w : ℕ) (xs : List Slot) → w < n → Alike (get_or (sized n xs) w no_slot) (get_or xs w no_slot)
sized_within zero w xs l = absurd (omega arith)
sized_within (suc n) zero [] l = (refl, refl)
sized_within (suc n) (suc w) [] l = sized_within n w [] (omega arith)
sized_within (suc n) zero (x ∷ xs) l = (refl, refl)
sized_within (suc n) (suc w) (x ∷ xs) l = sized_within n w xs (omega arith)

sized_alike : (n w : ℕ) (xs : List Slot) → (n ≤ w → BlankSlot (get_or xs w no_slot)) → Alike (get_or (sized n xs) w no_slot) (get_or xs w no_slot)
sized_alike n w xs b =
    let le_or : (a b : ℕ) → (a < b) ⊎ (b ≤ a) = λ a b. grind arith in
    elim (le_or w n) [
      | inl l ↦ sized_within n w xs l
      | inr l ↦ let e = sized_past n w xs l in let k = b l in (ap (λ (x : Slot). x.state) e ∙ sym k.0, ap (λ (x : Slot). x.mark) e ∙ sym k.1)
    ]

abbrev pub cut : ℕ → ℕ → SpacePages → SpacePages
cut d s x = record x { data_pages = sized d x.data_pages; stack_pages = sized s x.stack_pages }

data_cut : (d s w : ℕ) (o : Option SpacePages) → (d ≤ w → BlankSlot (get_or (data_in o) w no_slot))
    → Alike (get_or (data_in (mapped (cut d s) o)) w no_slot) (get_or (data_in o) w no_slot)
data_cut d s w None b = (refl, refl)
data_cut d s w (Some x) b = sized_alike d w x.data_pages b

stack_cut : (d s w : ℕ) (o : Option SpacePages) → (s ≤ w → BlankSlot (get_or (stack_in o) w no_slot))
    → Alike (get_or (stack_in (mapped (cut d s) o)) w no_slot) (get_or (stack_in o) w no_slot)
stack_cut d s w None b = (refl, refl)
stack_cut d s w (Some x) b = sized_alike s w x.stack_pages b

-- the pages that are cut off are blank
pub record CanCut (p : Placement) (sid d s : ℕ) : Type 0 where
  pub data_blank : (w : ℕ) → d ≤ w → BlankSlot (slot_of p (Data sid w))
  pub stack_blank : (w : ℕ) → s ≤ w → BlankSlot (slot_of p (Stack sid w))

pub cut_owner : (p : Placement) (sid d s : ℕ) → OwnsFrames p → CanCut p sid d s → OwnsFrames (cut_space p sid d s)
cut_owner p sid d s o c = alike_owner p (cut_space p sid d s) o refl refl refl alike
  where
    alike : (w : Page) → Alike (slot_of (cut_space p sid d s) w) (slot_of p w)
    alike (Data t w) = elim (cases_eq t sid) [
      | inl e ↦ subst (λ (x : ℕ). Alike (get_or (data_in (numbered space_number x (changed space_number sid (cut d s) p.spaces))) w no_slot)
          (get_or (data_in (numbered space_number x p.spaces)) w no_slot)) (sym e)
          (subst (λ (y : Option SpacePages). Alike (get_or (data_in y) w no_slot) (get_or (data_in (numbered space_number sid p.spaces)) w no_slot))
          (sym (changed_same space_number sid (cut d s) (λ x. refl) p.spaces))
          (data_cut d s w (numbered space_number sid p.spaces) (c.data_blank w)))
      | inr n ↦ subst (λ (y : Option SpacePages). Alike (get_or (data_in y) w no_slot) (get_or (data_in (numbered space_number t p.spaces)) w no_slot))
          (sym (changed_other space_number sid t (cut d s) (λ x. refl) n p.spaces)) (refl, refl)
    ]
    alike (Stack t w) = elim (cases_eq t sid) [
      | inl e ↦ subst (λ (x : ℕ). Alike (get_or (stack_in (numbered space_number x (changed space_number sid (cut d s) p.spaces))) w no_slot)
          (get_or (stack_in (numbered space_number x p.spaces)) w no_slot)) (sym e)
          (subst (λ (y : Option SpacePages). Alike (get_or (stack_in y) w no_slot) (get_or (stack_in (numbered space_number sid p.spaces)) w no_slot))
          (sym (changed_same space_number sid (cut d s) (λ x. refl) p.spaces))
          (stack_cut d s w (numbered space_number sid p.spaces) (c.stack_blank w)))
      | inr n ↦ subst (λ (y : Option SpacePages). Alike (get_or (stack_in y) w no_slot) (get_or (stack_in (numbered space_number t p.spaces)) w no_slot))
          (sym (changed_other space_number sid t (cut d s) (λ x. refl) n p.spaces)) (refl, refl)
    ]
    alike (Text i w) = (refl, refl)

-- from a page of a list, by its number
pub each_at : (P : Page → Type 0) (q : Page) (lo n w : ℕ) → EachPage P (pages_from q lo n) → lo ≤ w → w < lo + n → P (beside q w)
each_at P q lo zero w h l m = absurd (omega arith)
each_at P q lo (suc n) w h l m = elim (cases_eq w lo) [
  | inl e ↦ subst (λ (x : ℕ). P (beside q x)) (sym e) h.0
  | inr k ↦ each_at P q (lo + 1) n w h.1 (omega arith) (omega arith)
]

each_front : (P : Page → Type 0) (qs rs : List Page) → EachPage P (qs ++ rs) → EachPage P qs
each_front P [] rs h = tt
each_front P (q ∷ qs) rs h = (h.0, each_front P qs rs h.1)

each_back : (P : Page → Type 0) (qs rs : List Page) → EachPage P (qs ++ rs) → EachPage P rs
each_back P [] rs h = h
each_back P (q ∷ qs) rs h = each_back P qs rs h.1

-- the pages from some on to the end were dropped, so all from there on are blank
blank_from : (p : Placement) (q : Page) (lo n : ℕ) → EachPage (IsBlank p) (pages_from q lo n)
    → ((w : ℕ) → lo + n ≤ w → length (slots_of p (beside q w)) ≤ w) → ((w : ℕ) → number_of (beside q w) ≡ w)
    → (w : ℕ) → lo ≤ w → BlankSlot (slot_of p (beside q w))
blank_from p q lo n h past num w l =
    let le_or : (a b : ℕ) → (a < b) ⊎ (b ≤ a) = λ a b. grind arith in
    elim (le_or w (lo + n)) [
      | inl m ↦ let b : IsBlank p (beside q w) = each_at (IsBlank p) q lo n w h l m in (b.state, b.mark)
      | inr m ↦ let e =
          get_or_past (slots_of p (beside q w)) (number_of (beside q w)) no_slot (let a = past w m in let k = num w in omega arith) in (ap (λ (x : Slot). x.state) e, ap (λ (x : Slot). x.mark) e)
    ]

-- the pages that a new size drops
abbrev pub dropped_pages : Placement → ℕ → ℕ → ℕ → List Page
dropped_pages p sid d s = data_from sid d (data_count p sid - d) ++ stack_from sid s (stack_count p sid - s)

-- Growth and break, where no page that goes is in a transfer.
pub resize_owner : (p : Placement) (sid d s : ℕ) → OwnsFrames p → EachPage (λ q. AtRest (state_of p q)) (dropped_pages p sid d s)
    → OwnsFrames (resize p sid d s)
resize_owner p sid d s o r = cut_owner (drop_all p (dropped_pages p sid d s)) sid d s (drop_all_owner (dropped_pages p sid d s) p o r) (record {
  data_blank = blank_from (drop_all p (dropped_pages p sid d s)) (Data sid d) d (data_count p sid - d)
      (each_front (IsBlank (drop_all p (dropped_pages p sid d s))) (data_from sid d (data_count p sid - d)) (stack_from sid s (stack_count p sid - s)) (drop_all_blank (dropped_pages p sid d s) p))
      (λ w l. let h = drop_all_length (dropped_pages p sid d s) p (Data sid w) in omega arith) (λ w. refl);
  stack_blank = blank_from (drop_all p (dropped_pages p sid d s)) (Stack sid s) s (stack_count p sid - s)
      (each_back (IsBlank (drop_all p (dropped_pages p sid d s))) (data_from sid d (data_count p sid - d)) (stack_from sid s (stack_count p sid - s)) (drop_all_blank (dropped_pages p sid d s) p))
      (λ w l. let h = drop_all_length (dropped_pages p sid d s) p (Stack sid w) in omega arith) (λ w. refl);
})

-- A new space.

pub numbered_hit : (n : ℕ) (x : SpacePages) (xs : List SpacePages) → space_number x ≡ n → numbered space_number n (x ∷ xs) ≡ Some x
numbered_hit n x xs e = grind (arith, nat_tests)

pub numbered_miss : (n : ℕ) (x : SpacePages) (xs : List SpacePages) → space_number x ≢ n → numbered space_number n (x ∷ xs) ≡ numbered space_number n xs
numbered_miss n x xs e = grind (arith, nat_tests)

pub added_other : (t : ℕ) (ss : List SpacePages) (x : SpacePages) → space_number x ≢ t → numbered space_number t (ss ++ x ∷ []) ≡ numbered space_number t ss
added_other t [] x n = numbered_miss t x [] n
added_other t (s ∷ ss) x n = elim (cases_eq (space_number s) t) [
  | inl e ↦ numbered_hit t s (ss ++ x ∷ []) e ∙ sym (numbered_hit t s ss e)
  | inr m ↦ numbered_miss t s (ss ++ x ∷ []) m ∙ added_other t ss x n ∙ sym (numbered_miss t s ss m)
]

pub added_same : (t : ℕ) (ss : List SpacePages) (x : SpacePages) → space_number x ≡ t → numbered space_number t ss ≡ None
    → numbered space_number t (ss ++ x ∷ []) ≡ Some x
added_same t [] x e n = numbered_hit t x [] e
added_same t (s ∷ ss) x e n = elim (cases_eq (space_number s) t) [
  | inl k ↦ absurd (let h : Some s ≡ None = sym (numbered_hit t s ss k) ∙ n in cc)
  | inr m ↦ numbered_miss t s (ss ++ x ∷ []) m ∙ added_same t ss x e (sym (numbered_miss t s ss m) ∙ n)
]

-- all pages of a segment are blank
abbrev pub AllBlank : List Slot → Type 0
AllBlank [] = Unit {0}
AllBlank (x ∷ xs) = BlankSlot x × AllBlank xs

pub blank_slot_at : (xs : List Slot) (w : ℕ) → AllBlank xs → BlankSlot (get_or xs w no_slot)
blank_slot_at [] w b = (refl, refl)
blank_slot_at (x ∷ xs) zero b = b.0
blank_slot_at (x ∷ xs) (suc w) b = blank_slot_at xs w b.1

pub add_alike : (p : Placement) (x : SpacePages) (due : List Due) → IsNew p x.sid → AllBlank x.data_pages → AllBlank x.stack_pages → (w : Page)
    → Alike (slot_of (record p { spaces = p.spaces ++ x ∷ []; due = due }) w) (slot_of p w)
add_alike p x due n bd bs = alike
  where
    alike : (w : Page) → Alike (slot_of (record p { spaces = p.spaces ++ x ∷ []; due = due }) w) (slot_of p w)
    alike (Data t w) = elim (cases_eq t x.sid) [
      | inl e ↦ subst (λ (k : ℕ). Alike (get_or (data_in (numbered space_number k (p.spaces ++ x ∷ []))) w no_slot) (get_or (data_in (numbered space_number k p.spaces)) w no_slot)) (sym e)
          (subst (λ (y : Option SpacePages). Alike (get_or (data_in (numbered space_number x.sid (p.spaces ++ x ∷ []))) w no_slot) (get_or (data_in y) w no_slot)) (sym n)
          (subst (λ (y : Option SpacePages). Alike (get_or (data_in y) w no_slot) no_slot) (sym (added_same x.sid p.spaces x refl n)) (blank_slot_at x.data_pages w bd)))
      | inr m ↦ subst (λ (y : Option SpacePages). Alike (get_or (data_in y) w no_slot) (get_or (data_in (numbered space_number t p.spaces)) w no_slot))
          (sym (added_other t p.spaces x (λ k. m (sym k)))) (refl, refl)
    ]
    alike (Stack t w) = elim (cases_eq t x.sid) [
      | inl e ↦ subst (λ (k : ℕ). Alike (get_or (stack_in (numbered space_number k (p.spaces ++ x ∷ []))) w no_slot) (get_or (stack_in (numbered space_number k p.spaces)) w no_slot)) (sym e)
          (subst (λ (y : Option SpacePages). Alike (get_or (stack_in (numbered space_number x.sid (p.spaces ++ x ∷ []))) w no_slot) (get_or (stack_in y) w no_slot)) (sym n)
          (subst (λ (y : Option SpacePages). Alike (get_or (stack_in y) w no_slot) no_slot) (sym (added_same x.sid p.spaces x refl n)) (blank_slot_at x.stack_pages w bs)))
      | inr m ↦ subst (λ (y : Option SpacePages). Alike (get_or (stack_in y) w no_slot) (get_or (stack_in (numbered space_number t p.spaces)) w no_slot))
          (sym (added_other t p.spaces x (λ k. m (sym k)))) (refl, refl)
    ]
    alike (Text i w) = (refl, refl)

pub add_owner : (p : Placement) (x : SpacePages) (due : List Due) → OwnsFrames p → IsNew p x.sid → AllBlank x.data_pages → AllBlank x.stack_pages
    → OwnsFrames (record p { spaces = p.spaces ++ x ∷ []; due = due })
add_owner p x due o n bd bs = alike_owner p (record p { spaces = p.spaces ++ x ∷ []; due = due }) o refl refl refl (add_alike p x due n bd bs)

pub child_blank : (xs : List Slot) → AllBlank (map child_slot xs)
child_blank [] = tt
child_blank (x ∷ xs) = (one x.state, child_blank xs)
  where
    one : (s : PageState) → BlankSlot (child_slot_by x s)
    one Unfilled = (refl, refl)
    one (Valid f) = (refl, refl)
    one (Invalid f) = (refl, refl)
    one (Coming f) = (refl, refl)
    one (Going f) = (refl, refl)
    one OnSwap = (refl, refl)

pub fork_owner : (p : Placement) (parent child : ℕ) → OwnsFrames p → IsNew p child → OwnsFrames (fork_space p parent child)
fork_owner p parent child o n = add_owner p (record {
  sid = child;
  image = image_of p parent;
  data_pages = map child_slot (slots_of p (Data parent 0));
  stack_pages = map child_slot (slots_of p (Stack parent 0));
}) (fork_space p parent child).due o n (child_blank (slots_of p (Data parent 0))) (child_blank (slots_of p (Stack parent 0)))

pub unfilled_blank : (facts : Image) (v n : ℕ) → AllBlank (unfilled_data facts v n)
unfilled_blank facts v zero = tt
unfilled_blank facts v (suc n) = ((refl, refl), unfilled_blank facts (v + 1) n)

pub enter_alike : (p : Placement) (sid image : ℕ) (facts : Image) → IsNew p sid → (w : Page) → Alike (slot_of (enter_space p sid image facts) w) (slot_of p w)
enter_alike p sid image facts n = add_alike p (new_pages sid image facts) (enter_space p sid image facts).due n
    (unfilled_blank facts 0 (Rattle.aout_image.specs.Image.image_data_pages facts)) ((refl, refl), tt)

pub enter_space_owner : (p : Placement) (sid image : ℕ) (facts : Image) → OwnsFrames p → IsNew p sid → OwnsFrames (enter_space p sid image facts)
enter_space_owner p sid image facts o n = add_owner p (new_pages sid image facts) (enter_space p sid image facts).due o n
    (unfilled_blank facts 0 (Rattle.aout_image.specs.Image.image_data_pages facts)) ((refl, refl), tt)

-- A space that goes.

pub removed_other : (sid t : ℕ) (ss : List SpacePages) → t ≢ sid
    → numbered space_number t (filter (λ (s : SpacePages). not (s.sid == sid)) ss) ≡ numbered space_number t ss
removed_other sid t [] n = refl
removed_other sid t (s ∷ ss) n = go (s.sid == sid) refl (removed_other sid t ss n)
  where
    go : (b : Bool) → (s.sid == sid) ≡ b → numbered space_number t (filter (λ (s : SpacePages). not (s.sid == sid)) ss) ≡ numbered space_number t ss
        → numbered space_number t (cond (not b) (s ∷ filter (λ (s : SpacePages). not (s.sid == sid)) ss) (filter (λ (s : SpacePages). not (s.sid == sid)) ss)) ≡ numbered space_number t (s ∷ ss)
    go true e ih =
        let equal : (a b : ℕ) → (a == b) ≡ true → a ≡ b = λ a b e. grind (arith, nat_tests) in
        ih ∙ sym (numbered_miss t s ss (λ k. n (sym k ∙ equal s.sid sid e)))
    go false e ih = ap (λ (o : Option SpacePages). cond (space_number s == t) (Some s) o) ih

pub removed_same : (sid : ℕ) (ss : List SpacePages) → numbered space_number sid (filter (λ (s : SpacePages). not (s.sid == sid)) ss) ≡ None
removed_same sid [] = refl
removed_same sid (s ∷ ss) = go (s.sid == sid) refl (removed_same sid ss)
  where
    go : (b : Bool) → (s.sid == sid) ≡ b → numbered space_number sid (filter (λ (s : SpacePages). not (s.sid == sid)) ss) ≡ None
        → numbered space_number sid (cond (not b) (s ∷ filter (λ (s : SpacePages). not (s.sid == sid)) ss) (filter (λ (s : SpacePages). not (s.sid == sid)) ss)) ≡ None
    go true e ih = ih
    go false e ih = ap (λ (b : Bool). cond b (Some s) (numbered space_number sid (filter (λ (s : SpacePages). not (s.sid == sid)) ss))) e ∙ ih

pub remove_owner : (p : Placement) (sid : ℕ) → OwnsFrames p → ((w : ℕ) → BlankSlot (slot_of p (Data sid w)))
    → ((w : ℕ) → BlankSlot (slot_of p (Stack sid w))) → OwnsFrames (remove_space p sid)
remove_owner p sid o bd bs = alike_owner p (remove_space p sid) o refl refl refl alike
  where
    alike : (w : Page) → Alike (slot_of (remove_space p sid) w) (slot_of p w)
    alike (Data t w) = elim (cases_eq t sid) [
      | inl e ↦ subst (λ (k : ℕ). Alike (get_or (data_in (numbered space_number k (remove_space p sid).spaces)) w no_slot) (slot_of p (Data k w))) (sym e)
          (subst (λ (y : Option SpacePages). Alike (get_or (data_in y) w no_slot) (slot_of p (Data sid w))) (sym (removed_same sid p.spaces))
          (blank_alike no_slot (slot_of p (Data sid w)) (refl, refl) (bd w)))
      | inr n ↦ subst (λ (y : Option SpacePages). Alike (get_or (data_in y) w no_slot) (slot_of p (Data t w))) (sym (removed_other sid t p.spaces n)) (refl, refl)
    ]
    alike (Stack t w) = elim (cases_eq t sid) [
      | inl e ↦ subst (λ (k : ℕ). Alike (get_or (stack_in (numbered space_number k (remove_space p sid).spaces)) w no_slot) (slot_of p (Stack k w))) (sym e)
          (subst (λ (y : Option SpacePages). Alike (get_or (stack_in y) w no_slot) (slot_of p (Stack sid w))) (sym (removed_same sid p.spaces))
          (blank_alike no_slot (slot_of p (Stack sid w)) (refl, refl) (bs w)))
      | inr n ↦ subst (λ (y : Option SpacePages). Alike (get_or (stack_in y) w no_slot) (slot_of p (Stack t w))) (sym (removed_other sid t p.spaces n)) (refl, refl)
    ]
    alike (Text i w) = (refl, refl)

pub leave_text_owner : (p : Placement) (image : ℕ) → OwnsFrames p → OwnsFrames (leave_text p image)
leave_text_owner p image o = go (sharers p image)
  where
    go : (n : ℕ) → OwnsFrames (leave_text_by p image n)
    go zero = leave_all_owner (pages_of_text p image) p o
    go (suc n) = o

-- A space goes of which no page is in a transfer.
pub gone_owner : (p : Placement) (sid : ℕ) → OwnsFrames p → EachPage (λ q. AtRest (state_of p q)) (pages_of_space p sid)
    → OwnsFrames (remove_space (drop_all p (pages_of_space p sid)) sid)
gone_owner p sid o r = remove_owner (drop_all p (pages_of_space p sid)) sid (drop_all_owner (pages_of_space p sid) p o r)
    (λ w. blank_from (drop_all p (pages_of_space p sid)) (Data sid 0) 0 (data_count p sid)
    (each_front (IsBlank (drop_all p (pages_of_space p sid))) (data_from sid 0 (data_count p sid)) (stack_from sid 0 (stack_count p sid)) (drop_all_blank (pages_of_space p sid) p))
    (λ w l. let h = drop_all_length (pages_of_space p sid) p (Data sid w) in omega arith) (λ w. refl) w (omega arith))
    (λ w. blank_from (drop_all p (pages_of_space p sid)) (Stack sid 0) 0 (stack_count p sid)
    (each_back (IsBlank (drop_all p (pages_of_space p sid))) (data_from sid 0 (data_count p sid)) (stack_from sid 0 (stack_count p sid)) (drop_all_blank (pages_of_space p sid) p))
    (λ w l. let h = drop_all_length (pages_of_space p sid) p (Stack sid w) in omega arith) (λ w. refl) w (omega arith))

-- And its text is left.
pub give_up_owner : (p : Placement) (sid : ℕ) → OwnsFrames p → EachPage (λ q. AtRest (state_of p q)) (pages_of_space p sid) → OwnsFrames (give_up p sid)
give_up_owner p sid o r = leave_text_owner (remove_space (drop_all p (pages_of_space p sid)) sid) (image_of p sid) (gone_owner p sid o r)

-- where processes reside says nothing of owners
pub begin_residence_owner : (p : Placement) (pid at : ℕ) → OwnsFrames p → OwnsFrames (begin_residence p pid at)
begin_residence_owner p pid at o = alike_owner p (begin_residence p pid at) o refl refl refl (λ w. (refl, refl))

pub end_residence_owner : (p : Placement) (pid : ℕ) → OwnsFrames p → OwnsFrames (end_residence p pid)
end_residence_owner p pid o = alike_owner p (end_residence p pid) o refl refl refl (λ w. (refl, refl))

pub touch_all_owner : (qs : List Page) (p : Placement) → OwnsFrames p → OwnsFrames (touch_all p qs)
touch_all_owner [] p o = o
touch_all_owner (q ∷ qs) p o = touch_all_owner qs (touch p q) (touch_owner p q o)
