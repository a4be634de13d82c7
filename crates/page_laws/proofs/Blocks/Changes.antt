-- Spaces that grow, shrink, come and go leave text that nobody shares aside.
use Rattle.std.proofs.Common.{◌≡◌, ◌≢◌, inl, inr, ℕ, zero, suc, ◌+◌, ◌-◌, ◌<◌, ◌≤◌, ◌==◌, Bool, true, false, not, cond, List, [], ◌∷◌, ◌++◌, length, map, filter, Option, Some, None, refl, sym, ap, ◌∙◌, subst, arith}
use Rattle.std.proofs.lemmas.Bool.{cases_eq, eqb-true, ne_eqb, cases_lt}
use Rattle.std.proofs.lemmas.List.{get_or_past}
use Rattle.vm_facts.specs.declared.page.Page.{Page}
use Rattle.vm_facts.specs.declared.page.Page.TheVariants.{Data, Stack, Text}
use Rattle.vm_facts.specs.declared.page.PageState.{PageState}
use Rattle.vm_facts.specs.declared.page.PageState.TheVariants.{Unfilled, Valid, Invalid, Coming, Going, OnSwap}
use Rattle.page_model.specs.Change.{Change}
use Rattle.page_model.specs.Change.TheVariants.{Resize, Fork, Lend, Exec, End}
use Rattle.page_model.specs.Pages.{Slot, no_slot, SpacePages, changed, with_data, with_stack, frame_of}
use Rattle.page_model.specs.PageNames.{number_of, pages_from}
use Rattle.vm_facts.specs.Lists.{times, without}
use Rattle.page_model.specs.Placement.{Placement, Due, space_number, slots_of, slot_of, state_of, sharers, sharers_in, image_of, IsThere, new_pages, spaces_with}
use Rattle.page_model.specs.Moves.{drop_at, drop_page, drop_all, leave_by, leave_page, leave_all, listed, listed_of}
use Rattle.page_model.specs.Place.{Changing, child_slot, fork_space, enter_space, enter_image, give_up_unless, place_change, cut_space, resize, data_count, stack_count, data_from, stack_from, remove_space, pages_of_space, pages_of_text, leave_text, leave_text_by, give_up, facts_numbered}
use Rattle.page_model.specs.Conditions.{CanForget, MayForget, EachPage, AtRest, HasImage}
use Rattle.page_model.specs.Ownership.{IsAside, TextAside}
use Rattle.page_laws.proofs.Lists.Frames.{times_one}
use Rattle.vm_facts.proofs.Lists.{times-append, times_head, times-without_other, times_other}
use Rattle.page_laws.proofs.Lists.Pages.{page_cases, put_state, put_mark, put_other, put_length, put_sharers, sharers_changed}
use Rattle.page_laws.proofs.Lists.Runs.{each_page_append, pages_from_each}
use Rattle.page_laws.proofs.Ownership.Spaces.{drop_all_other}
use Rattle.page_laws.proofs.Ownership.Changes.{dropped_pages, cut}
use Rattle.aout_image.specs.declared.Image.{Image}

-- the same texts, what was free free, and no image shared less
pub text_still : (p q : Placement) → ((image n : ℕ) → slot_of q (Text image n) ≡ slot_of p (Text image n)) → ((f : ℕ) → 0 < times f p.free → 0 < times f q.free)
    → ((image : ℕ) → sharers q image ≡ 0 → sharers p image ≡ 0) → TextAside p → TextAside q
text_still p q s fr sh a image n z =
    let was : IsAside p (Text image n) = a image n (sh image z) in
    record {
      unsaved = ap (λ (x : Slot). x.mark) (s image n) ∙ was.unsaved;
      rests = elim was.rests [
        | inl e ↦ inl (ap (λ (x : Slot). x.state) (s image n) ∙ e)
        | inr e ↦ inr (e.0, ap (λ (x : Slot). x.state) (s image n) ∙ e.1, fr e.0 e.2)
      ];
    }

-- Dropping.

drop_frees : (p : Placement) (v : Page) (f : ℕ) → 0 < times f p.free → 0 < times f (drop_page p v).free
drop_frees p v f b = go (frame_of (state_of p v))
  where
    go : (h : Option ℕ) → 0 < times f (drop_at p v h).free
    go None = b
    go (Some g) = elim (cases_eq f g) [
      | inl e ↦ subst (λ (x : ℕ). 0 < times x (g ∷ without g p.free)) (sym e) (let h = times_head g (without g p.free) in omega arith)
      | inr n ↦ (let h = times_other f g (without g p.free) (λ i. n (sym i)) in let k = times-without_other g f p.free n in omega arith)
    ]

drop_sharers : (p : Placement) (v : Page) (image : ℕ) → sharers (drop_page p v) image ≡ sharers p image
drop_sharers p v image = go (frame_of (state_of p v))
  where
    go : (h : Option ℕ) → sharers (drop_at p v h) image ≡ sharers p image
    go None = put_sharers p v Unfilled false image
    go (Some g) = put_sharers p v Unfilled false image

pub drop_all_frees : (qs : List Page) (p : Placement) (f : ℕ) → 0 < times f p.free → 0 < times f (drop_all p qs).free
drop_all_frees [] p f b = b
drop_all_frees (v ∷ qs) p f b = drop_all_frees qs (drop_page p v) f (drop_frees p v f b)

pub drop_all_sharers : (qs : List Page) (p : Placement) (image : ℕ) → sharers (drop_all p qs) image ≡ sharers p image
drop_all_sharers [] p image = refl
drop_all_sharers (v ∷ qs) p image = drop_all_sharers qs (drop_page p v) image ∙ drop_sharers p v image

-- pages of a space are no text
not_text : (sid d dn s sn image n : ℕ) → EachPage (λ r. Text image n ≢ r) (data_from sid d dn ++ stack_from sid s sn)
not_text sid d dn s sn image n = each_page_append (λ r. Text image n ≢ r) (data_from sid d dn) (stack_from sid s sn)
    (pages_from_each (λ r. Text image n ≢ r) (Data sid d) d dn (λ w l m e. absurd cc))
    (pages_from_each (λ r. Text image n ≢ r) (Stack sid s) s sn (λ w l m e. absurd cc))

pub resize_aside : (p : Placement) (sid d s : ℕ) → TextAside p → TextAside (resize p sid d s)
resize_aside p sid d s a = text_still p (resize p sid d s)
    (λ image n. drop_all_other (dropped_pages p sid d s) p (Text image n) (not_text sid d (data_count p sid - d) s (stack_count p sid - s) image n))
    (drop_all_frees (dropped_pages p sid d s) p)
    (λ image z. sym (drop_all_sharers (dropped_pages p sid d s) p image) ∙ sym (sharers_changed sid image (cut d s) (λ x. refl) (drop_all p (dropped_pages p sid d s)).spaces) ∙ z) a

-- A new space.

pub sharers-append : (image : ℕ) (ss rs : List SpacePages) → sharers_in image (ss ++ rs) ≡ sharers_in image ss + sharers_in image rs
sharers-append image [] rs = omega arith
sharers-append image (s ∷ ss) rs = omega (arith, sharers-append image ss rs)

pub add_aside : (p : Placement) (x : SpacePages) (due : List Due) → TextAside p → TextAside (record p { spaces = p.spaces ++ x ∷ []; due = due })
add_aside p x due a = text_still p (record p { spaces = p.spaces ++ x ∷ []; due = due }) (λ image n. refl) (λ f b. b) (λ image z. let h = sharers-append image p.spaces (x ∷ []) in omega arith) a

-- A space that goes, and its text with the last sharer.

image_changed_by : (sid image t : ℕ) (change : SpacePages → SpacePages) (b : Bool) (s : SpacePages) (ss rs : List SpacePages) → (change s).sid ≡ s.sid
    → (change s).image ≡ s.image
    → (s.sid ≡ sid → s.image ≡ image) → HasImage sid image ss → HasImage sid image rs → HasImage sid image (cond b (change s ∷ ss) (s ∷ rs))
image_changed_by sid image t change true s ss rs a i h k g = ((λ e. i ∙ h (sym a ∙ e)), k)
image_changed_by sid image t change false s ss rs a i h k g = (h, g)

image_changed : (sid image t : ℕ) (change : SpacePages → SpacePages) → ((x : SpacePages) → (change x).sid ≡ x.sid)
    → ((x : SpacePages) → (change x).image ≡ x.image) → (ss : List SpacePages)
    → HasImage sid image ss → HasImage sid image (changed space_number t change ss)
image_changed sid image t change a i [] h = tt
image_changed sid image t change a i (s ∷ ss) h =
    image_changed_by sid image t change (space_number s == t) s ss (changed space_number t change ss) (a s) (i s) h.0 h.1 (image_changed sid image t change a i ss h.1)

put_image : (p : Placement) (v : Page) (s : PageState) (m : Bool) (sid image : ℕ) → HasImage sid image p.spaces
    → HasImage sid image (spaces_with p.spaces v s m)
put_image p (Data t v) s m sid image h = image_changed sid image t (with_data v s m) (λ x. refl) (λ x. refl) p.spaces h
put_image p (Stack t v) s m sid image h = image_changed sid image t (with_stack v s m) (λ x. refl) (λ x. refl) p.spaces h
put_image p (Text t v) s m sid image h = h

drop_image : (p : Placement) (v : Page) (sid image : ℕ) → HasImage sid image p.spaces → HasImage sid image (drop_page p v).spaces
drop_image p v sid image h = go (frame_of (state_of p v))
  where
    go : (o : Option ℕ) → HasImage sid image (drop_at p v o).spaces
    go None = put_image p v Unfilled false sid image h
    go (Some g) = put_image p v Unfilled false sid image h

drop_all_image : (qs : List Page) (p : Placement) (sid image : ℕ) → HasImage sid image p.spaces → HasImage sid image (drop_all p qs).spaces
drop_all_image [] p sid image h = h
drop_all_image (v ∷ qs) p sid image h = drop_all_image qs (drop_page p v) sid image (drop_image p v sid image h)

-- no other image loses a sharer
pub removed_sharers : (sid image j : ℕ) (ss : List SpacePages) → HasImage sid image ss → j ≢ image
    → sharers_in j (filter (λ (s : SpacePages). not (s.sid == sid)) ss) ≡ sharers_in j ss
removed_sharers sid image j [] h n = refl
removed_sharers sid image j (s ∷ ss) h n = go (s.sid == sid) refl (removed_sharers sid image j ss h.1 n)
  where
    go : (b : Bool) → (s.sid == sid) ≡ b → sharers_in j (filter (λ (s : SpacePages). not (s.sid == sid)) ss) ≡ sharers_in j ss
        → sharers_in j (cond (not b) (s ∷ filter (λ (s : SpacePages). not (s.sid == sid)) ss) (filter (λ (s : SpacePages). not (s.sid == sid)) ss)) ≡ sharers_in j (s ∷ ss)
    go true e ih = ih ∙ sym (ap (λ (b : Bool). cond b 1 0 + sharers_in j ss) (ne_eqb s.image j (λ k. n (sym k ∙ h.0 (eqb-true s.sid sid e)))) ∙ (omega arith))
    go false e ih = ap (λ (k : ℕ). cond (s.image == j) 1 0 + k) ih

-- a text page that is left is aside, and no other changes
leave_frees : (p : Placement) (v : Page) (f : ℕ) → 0 < times f p.free → 0 < times f (leave_page p v).free
leave_frees p v f b = go (state_of p v) (listed p v)
  where
    more : (g : ℕ) → 0 < times f (p.free ++ g ∷ [])
    more g = let h = times-append f p.free (g ∷ []) in omega arith

    go : (s : PageState) (n : ℕ) → 0 < times f (leave_by p v s n).free
    go (Valid g) n = more g
    go (Invalid g) zero = more g
    go (Invalid g) (suc n) = b
    go OnSwap n = b
    go Unfilled n = b
    go (Coming g) n = b
    go (Going g) n = b

pub leave_other : (p : Placement) (v w : Page) → w ≢ v → slot_of (leave_page p v) w ≡ slot_of p w
leave_other p v w d = go (state_of p v) (listed p v)
  where
    go : (s : PageState) (n : ℕ) → slot_of (leave_by p v s n) w ≡ slot_of p w
    go (Valid g) n = put_other p v (Invalid g) false w d
    go (Invalid g) zero = put_other p v (Invalid g) false w d
    go (Invalid g) (suc n) = put_other p v (Invalid g) false w d
    go OnSwap n = put_other p v Unfilled false w d
    go Unfilled n = put_other p v Unfilled false w d
    go (Coming g) n = refl
    go (Going g) n = refl

pub leave_length : (p : Placement) (v w : Page) → length (slots_of (leave_page p v) w) ≡ length (slots_of p w)
leave_length p v w = go (state_of p v) (listed p v)
  where
    go : (s : PageState) (n : ℕ) → length (slots_of (leave_by p v s n) w) ≡ length (slots_of p w)
    go (Valid g) n = put_length p v (Invalid g) false w
    go (Invalid g) zero = put_length p v (Invalid g) false w
    go (Invalid g) (suc n) = put_length p v (Invalid g) false w
    go OnSwap n = put_length p v Unfilled false w
    go Unfilled n = put_length p v Unfilled false w
    go (Coming g) n = refl
    go (Going g) n = refl

pub leave_sharers : (p : Placement) (v : Page) (image : ℕ) → sharers (leave_page p v) image ≡ sharers p image
leave_sharers p v image = go (state_of p v) (listed p v)
  where
    go : (s : PageState) (n : ℕ) → sharers (leave_by p v s n) image ≡ sharers p image
    go (Valid g) n = put_sharers p v (Invalid g) false image
    go (Invalid g) zero = put_sharers p v (Invalid g) false image
    go (Invalid g) (suc n) = put_sharers p v (Invalid g) false image
    go OnSwap n = put_sharers p v Unfilled false image
    go Unfilled n = put_sharers p v Unfilled false image
    go (Coming g) n = refl
    go (Going g) n = refl

leave_here : (p : Placement) (v : Page) → IsThere p v → AtRest (state_of p v) → IsAside (leave_page p v) v
leave_here p v there r = go (state_of p v) (listed p v) refl refl r
  where
    some : (g : ℕ) → 0 < times g (p.free ++ g ∷ [])
    some g = let h = times-append g p.free (g ∷ []) in let k = times_one g in omega arith

    go : (s : PageState) (n : ℕ) → state_of p v ≡ s → listed p v ≡ n → AtRest s → IsAside (leave_by p v s n) v
    go (Valid g) n e h r = record { unsaved = put_mark p v (Invalid g) false there; rests = inr (g, put_state p v (Invalid g) false there, some g) }
    go (Invalid g) zero e h r = record { unsaved = put_mark p v (Invalid g) false there; rests = inr (g, put_state p v (Invalid g) false there, some g) }
    go (Invalid g) (suc n) e h r = record {
      unsaved = put_mark p v (Invalid g) false there;
      rests = inr (g, put_state p v (Invalid g) false there, let k : times g p.free ≡ suc n = ap (λ (s : PageState). listed_of p (frame_of s)) (sym e) ∙ h in omega arith);
    }
    go OnSwap n e h r = record { unsaved = put_mark p v Unfilled false there; rests = inl (put_state p v Unfilled false there) }
    go Unfilled n e h r = record { unsaved = put_mark p v Unfilled false there; rests = inl (put_state p v Unfilled false there) }
    go (Coming g) n e h r = absurd r
    go (Going g) n e h r = absurd r

aside_still : (p : Placement) (v w : Page) → w ≢ v → IsAside p w → IsAside (leave_page p v) w
aside_still p v w d was = record {
  unsaved = ap (λ (x : Slot). x.mark) (leave_other p v w d) ∙ was.unsaved;
  rests = elim was.rests [
    | inl e ↦ inl (ap (λ (x : Slot). x.state) (leave_other p v w d) ∙ e)
    | inr e ↦ inr (e.0, ap (λ (x : Slot). x.state) (leave_other p v w d) ∙ e.1, leave_frees p v e.0 e.2)
  ];
}

aside_rest : (p : Placement) (v : Page) → IsAside p v → AtRest (state_of p v)
aside_rest p v a = elim a.rests [
  | inl e ↦ subst AtRest (sym e) tt
  | inr e ↦ subst AtRest (sym e.1) tt
]

aside_page : (p : Placement) (v w : Page) → IsThere p v → AtRest (state_of p v) → IsAside p w → IsAside (leave_page p v) w
aside_page p v w there r a = elim (page_cases w v) [
  | inl e ↦ subst (IsAside (leave_page p v)) (sym e) (leave_here p v there r)
  | inr n ↦ aside_still p v w n a
]

-- what is known of a page that is left
abbrev pub CanLeave : Placement → Page → Type 0
CanLeave p q = IsThere p q × AtRest (state_of p q)

can_still : (p : Placement) (v w : Page) → CanLeave p v → CanLeave p w → CanLeave (leave_page p v) w
can_still p v w c d = (
  (let h = leave_length p v w in let l = d.0 in omega arith),
  elim (page_cases w v) [
    | inl e ↦ subst (λ (x : Page). AtRest (state_of (leave_page p v) x)) (sym e) (aside_rest (leave_page p v) v (leave_here p v c.0 c.1))
    | inr n ↦ subst AtRest (sym (ap (λ (x : Slot). x.state) (leave_other p v w n))) d.1
  ],
)

leave_all_keeps : (qs : List Page) (p : Placement) (w : Page) → EachPage (CanLeave p) qs → IsAside p w → IsAside (leave_all p qs) w
leave_all_keeps [] p w c a = a
leave_all_keeps (v ∷ qs) p w c a = leave_all_keeps qs (leave_page p v) w
    (Rattle.page_laws.proofs.Lists.Runs.each_page_imp (CanLeave p) (CanLeave (leave_page p v)) qs c.1 (λ x d. can_still p v x c.0 d)) (aside_page p v w c.0.0 c.0.1 a)

leave_all_aside : (qs : List Page) (p : Placement) → EachPage (CanLeave p) qs → EachPage (IsAside (leave_all p qs)) qs
leave_all_aside [] p c = tt
leave_all_aside (v ∷ qs) p c =
    let d = Rattle.page_laws.proofs.Lists.Runs.each_page_imp (CanLeave p) (CanLeave (leave_page p v)) qs c.1 (λ x d. can_still p v x c.0 d) in
    (leave_all_keeps qs (leave_page p v) v d (leave_here p v c.0.0 c.0.1), leave_all_aside qs (leave_page p v) d)

pub leave_all_sharers : (qs : List Page) (p : Placement) (image : ℕ) → sharers (leave_all p qs) image ≡ sharers p image
leave_all_sharers [] p image = refl
leave_all_sharers (v ∷ qs) p image = leave_all_sharers qs (leave_page p v) image ∙ leave_sharers p v image

pub leave_all_length : (qs : List Page) (p : Placement) (w : Page) → length (slots_of (leave_all p qs) w) ≡ length (slots_of p w)
leave_all_length [] p w = refl
leave_all_length (v ∷ qs) p w = leave_all_length qs (leave_page p v) w ∙ leave_length p v w

each_at : (P : Page → Type 0) (image lo n w : ℕ) → EachPage P (pages_from (Text image 0) lo n) → lo ≤ w → w < lo + n → P (Text image w)
each_at P image lo zero w h l m = absurd (omega arith)
each_at P image lo (suc n) w h l m = elim (cases_eq w lo) [
  | inl e ↦ subst (λ (x : ℕ). P (Text image x)) (sym e) h.0
  | inr k ↦ each_at P image (lo + 1) n w h.1 (omega arith) (omega arith)
]

absent_aside : (p : Placement) (q : Page) → length (slots_of p q) ≤ number_of q → IsAside p q
absent_aside p q l = let e = get_or_past (slots_of p q) (number_of q) no_slot l in record { unsaved = ap (λ (x : Slot). x.mark) e; rests = inl (ap (λ (x : Slot). x.state) e) }

-- Text of this image is aside once it is left, and all else is as it was.
leave_text_aside : (p : Placement) (image : ℕ) → ((j n : ℕ) → j ≢ image → sharers p j ≡ 0 → IsAside p (Text j n))
    → (sharers p image ≡ 0 → (n : ℕ) → AtRest (state_of p (Text image n))) → TextAside (leave_text p image)
leave_text_aside p image others rest = go (sharers p image) refl
  where
    can : sharers p image ≡ 0 → EachPage (CanLeave p) (pages_of_text p image)
    can z = pages_from_each (CanLeave p) (Text image 0) 0 (length (slots_of p (Text image 0)))
        (λ w l m. ((let k : w < length (slots_of p (Text image w)) = (let j : w < length (slots_of p (Text image 0)) = (omega arith) in j) in k), rest z w))

    go : (n : ℕ) → sharers p image ≡ n → TextAside (leave_text_by p image n)
    go zero z = λ j n s. elim (cases_eq j image) [
      | inl e ↦ subst (λ (x : ℕ). IsAside (leave_all p (pages_of_text p image)) (Text x n)) (sym e) (elim (cases_lt n (length (slots_of p (Text image 0)))) [
        | inl l ↦ each_at (IsAside (leave_all p (pages_of_text p image))) image 0 (length (slots_of p (Text image 0))) n (leave_all_aside (pages_of_text p image) p (can z)) (omega arith) (omega arith)
        | inr l ↦ absent_aside (leave_all p (pages_of_text p image)) (Text image n) (let h = leave_all_length (pages_of_text p image) p (Text image n) in omega arith)
      ])
      | inr d ↦ leave_all_keeps (pages_of_text p image) p (Text j n) (can z) (others j n d (sym (leave_all_sharers (pages_of_text p image) p j) ∙ s))
    ]
    go (suc k) e = λ j n s. elim (cases_eq j image) [
      | inl h ↦ absurd (let i : sharers p image ≡ 0 = ap (λ (x : ℕ). sharers p x) (sym h) ∙ s in omega arith)
      | inr d ↦ others j n d s
    ]

-- other pages of the spaces leave the same sharers after
filtered_by : (sid j : ℕ) (x y : SpacePages) (xs ys : List SpacePages) → y.sid ≡ x.sid → y.image ≡ x.image → sharers_in j ys ≡ sharers_in j xs
    → sharers_in j (cond (not (y.sid == sid)) (y ∷ ys) ys) ≡ sharers_in j (cond (not (x.sid == sid)) (x ∷ xs) xs)
filtered_by sid j x y xs ys e i h = ap (λ (k : ℕ). sharers_in j (cond (not (k == sid)) (y ∷ ys) ys)) e ∙ go (x.sid == sid)
  where
    go : (b : Bool) → sharers_in j (cond (not b) (y ∷ ys) ys) ≡ sharers_in j (cond (not b) (x ∷ xs) xs)
    go true = h
    go false = ap (λ (k : ℕ). cond (k == j) 1 0 + sharers_in j ys) i ∙ ap (λ (k : ℕ). cond (x.image == j) 1 0 + k) h

abbrev pub rest_of : ℕ → List SpacePages → List SpacePages
rest_of sid ss = filter (λ (s : SpacePages). not (s.sid == sid)) ss

rest_changed_by : (sid j t : ℕ) (change : SpacePages → SpacePages) (b : Bool) (s : SpacePages) (ss rs : List SpacePages) → (change s).sid ≡ s.sid
    → (change s).image ≡ s.image → sharers_in j (rest_of sid rs) ≡ sharers_in j (rest_of sid ss)
    → sharers_in j (rest_of sid (cond b (change s ∷ ss) (s ∷ rs))) ≡ sharers_in j (rest_of sid (s ∷ ss))
rest_changed_by sid j t change true s ss rs a i h = filtered_by sid j s (change s) (rest_of sid ss) (rest_of sid ss) a i refl
rest_changed_by sid j t change false s ss rs a i h = filtered_by sid j s s (rest_of sid ss) (rest_of sid rs) refl refl h

rest_changed : (sid j t : ℕ) (change : SpacePages → SpacePages) → ((x : SpacePages) → (change x).sid ≡ x.sid)
    → ((x : SpacePages) → (change x).image ≡ x.image) → (ss : List SpacePages)
    → sharers_in j (rest_of sid (changed space_number t change ss)) ≡ sharers_in j (rest_of sid ss)
rest_changed sid j t change a i [] = refl
rest_changed sid j t change a i (s ∷ ss) = rest_changed_by sid j t change (space_number s == t) s ss (changed space_number t change ss) (a s) (i s) (rest_changed sid j t change a i ss)

rest_put : (p : Placement) (v : Page) (s : PageState) (m : Bool) (sid j : ℕ)
    → sharers_in j (rest_of sid (spaces_with p.spaces v s m)) ≡ sharers_in j (rest_of sid p.spaces)
rest_put p (Data t v) s m sid j = rest_changed sid j t (with_data v s m) (λ x. refl) (λ x. refl) p.spaces
rest_put p (Stack t v) s m sid j = rest_changed sid j t (with_stack v s m) (λ x. refl) (λ x. refl) p.spaces
rest_put p (Text t v) s m sid j = refl

rest_drop : (p : Placement) (v : Page) (sid j : ℕ) → sharers_in j (rest_of sid (drop_page p v).spaces) ≡ sharers_in j (rest_of sid p.spaces)
rest_drop p v sid j = go (frame_of (state_of p v))
  where
    go : (o : Option ℕ) → sharers_in j (rest_of sid (drop_at p v o).spaces) ≡ sharers_in j (rest_of sid p.spaces)
    go None = rest_put p v Unfilled false sid j
    go (Some g) = rest_put p v Unfilled false sid j

pub rest_drop_all : (qs : List Page) (p : Placement) (sid j : ℕ) → sharers_in j (rest_of sid (drop_all p qs).spaces) ≡ sharers_in j (rest_of sid p.spaces)
rest_drop_all [] p sid j = refl
rest_drop_all (v ∷ qs) p sid j = rest_drop_all qs (drop_page p v) sid j ∙ rest_drop p v sid j

pub give_up_aside : (p : Placement) (sid : ℕ) → TextAside p → CanForget p sid → TextAside (give_up p sid)
give_up_aside p sid a c =
    let dropped : Placement = drop_all p (pages_of_space p sid) in
    let removed : Placement = remove_space dropped sid in
    let text : (image n : ℕ) → slot_of dropped (Text image n) ≡ slot_of p (Text image n) = λ image n.
    drop_all_other (pages_of_space p sid) p (Text image n) (not_text sid 0 (data_count p sid) 0 (stack_count p sid) image n) in
    let kept : TextAside dropped = text_still p dropped text (drop_all_frees (pages_of_space p sid) p) (λ image z. sym (drop_all_sharers (pages_of_space p sid) p image) ∙ z) a in
    let was : (j n : ℕ) → sharers dropped j ≡ 0 → IsAside removed (Text j n) = λ j n z.
    let k : IsAside dropped (Text j n) = kept j n z in record { unsaved = k.unsaved; rests = k.rests } in
    leave_text_aside removed (image_of p sid)
    (λ j n d z. was j n (sym (removed_sharers sid (image_of p sid) j dropped.spaces (drop_all_image (pages_of_space p sid) p sid (image_of p sid) c.image) d) ∙ z))
    (λ z n. subst AtRest (sym (ap (λ (x : Slot). x.state) (text (image_of p sid) n))) (c.text_rests (sym (rest_drop_all (pages_of_space p sid) p sid (image_of p sid)) ∙ z) n))

-- Changes.

give_up_unless_aside : (borrowed : Bool) (p : Placement) (sid : ℕ) → TextAside p → (borrowed ≡ false → CanForget p sid)
    → TextAside (give_up_unless borrowed p sid)
give_up_unless_aside true p sid a c = a
give_up_unless_aside false p sid a c = give_up_aside p sid a (c refl)

enter_image_aside : (p : Placement) (sid image : ℕ) (facts : Option Image) → TextAside p → TextAside (enter_image p sid image facts)
enter_image_aside p sid image None a = a
enter_image_aside p sid image (Some facts) a = add_aside p (new_pages sid image facts) (enter_space p sid image facts).due a

pub place_change_aside : (who : Changing) (p : Placement) (change : Change) → TextAside p
    → MayForget who.images p who.sid who.borrowed who.next_sid change
    → TextAside (place_change who p change)
place_change_aside who p (Resize d s) a c = resize_aside p who.sid d s a
place_change_aside who p (Fork child) a c = λ i n z. let k = add_aside p (record {
  sid = who.next_sid;
  image = image_of p who.sid;
  data_pages = map child_slot (slots_of p (Data who.sid 0));
  stack_pages = map child_slot (slots_of p (Stack who.sid 0));
}) (fork_space p who.sid who.next_sid).due a i n z in record { unsaved = k.unsaved; rests = k.rests }
place_change_aside who p (Lend child) a c = λ i n z. let k = a i n z in record { unsaved = k.unsaved; rests = k.rests }
place_change_aside who p (Exec image top) a c =
    give_up_unless_aside who.borrowed (enter_image p who.next_sid image (facts_numbered who.images image)) who.sid (enter_image_aside p who.next_sid image (facts_numbered who.images image) a) c
place_change_aside who p (End status) a c = λ i n z. let k = give_up_unless_aside who.borrowed p who.sid a c i n z in record { unsaved = k.unsaved; rests = k.rests }
place_change_aside who p _ a c = a

pub leave_text_length : (p : Placement) (image : ℕ) (w : Page) → length (slots_of (leave_text p image) w) ≡ length (slots_of p w)
leave_text_length p image w = go (sharers p image)
  where
    go : (n : ℕ) → length (slots_of (leave_text_by p image n) w) ≡ length (slots_of p w)
    go zero = leave_all_length (pages_of_text p image) p w
    go (suc n) = refl
