-- Spaces that grow, shrink, come and go keep the flat memory.
use Rattle.std.proofs.Common.{◌≡◌, ◌≢◌, ◌⊎◌, inl, inr, ℕ, zero, suc, ◌-◌, ◌<◌, ◌≤◌, List, [], ◌∷◌, length, get_or, Option, Some, None, refl, sym, ap, ◌∙◌, subst, arith}
use Rattle.std.proofs.lemmas.Bool.{cases_eq, cases_lt}
use Rattle.vm_facts.specs.declared.page.Page.{Page}
use Rattle.vm_facts.specs.declared.page.Page.TheVariants.{Data, Stack, Text}
use Rattle.page_model.specs.Pages.{Slot, Filling, Zeros, no_slot, SpacePages, numbered, data_in, stack_in, frame_of}
use Rattle.page_model.specs.PageNames.{number_of}
use Rattle.page_model.specs.Placement.{Placement, Transfer, Due, space_number, slots_of, slot_of, state_of, errand_at, due_of_page, parts_of, IsThere, unfilled}
use Rattle.page_model.specs.Moves.{drop_at, drop_page, drop_all}
use Rattle.page_model.specs.Place.{sized, cut_space, resize, data_count, stack_count, data_from, stack_from, remove_space, pages_of_space}
use Rattle.page_model.specs.Conditions.{EachPage}
use Rattle.page_model.specs.PageBytes.{zeros, Bytes, bytes_in, IsUnsaved, KeepsBy, Keeps, CouplesPages, SameBytes}
use Rattle.page_laws.proofs.Lists.Pages.{mapped, changed_same, changed_other}
use Rattle.page_laws.proofs.Lists.Runs.{each_page_append, pages_from_each}
use Rattle.page_laws.proofs.Ownership.Spaces.{drop_all_other, drop_all_length}
use Rattle.page_laws.proofs.Ownership.Changes.{dropped_pages, removed_other, removed_same, cut}
use Rattle.page_laws.proofs.Bytes.Couples.{NoCopy, Unmoved, unmoved_keeps}

-- each page that is there is as it was, or is right by itself
pub changed_coupled : (p q : Placement) (b c : Bytes) → CouplesPages p b → ((w : Page) → IsThere q w → (IsThere p w × Unmoved p q b c w) ⊎ Keeps q c w)
    → ((image v : ℕ) → c.file (Text image v) ≡ c.memory (Text image v)) → ((image v : ℕ) → due_of_page q.due (Text image v) ≡ None) → CouplesPages q c
changed_coupled p q b c k h text due = record {
  each = λ w there. elim (h w there) [
    | inl u ↦ unmoved_keeps p q b c w u.1 (k.each w u.0)
    | inr e ↦ e
  ];
  text = text;
  text_due = due;
}

-- What pages that go leave.

drop_rest : (p : Placement) (v : Page) → ((drop_page p v).transfers ≡ p.transfers) × ((drop_page p v).due ≡ p.due)
drop_rest p v = go (frame_of (state_of p v))
  where
    go : (h : Option ℕ) → ((drop_at p v h).transfers ≡ p.transfers) × ((drop_at p v h).due ≡ p.due)
    go None = (refl, refl)
    go (Some f) = (refl, refl)

pub drop_all_rest : (qs : List Page) (p : Placement) → ((drop_all p qs).transfers ≡ p.transfers) × ((drop_all p qs).due ≡ p.due)
drop_all_rest [] p = (refl, refl)
drop_all_rest (v ∷ qs) p = let a = drop_all_rest qs (drop_page p v) in let b = drop_rest p v in (a.0 ∙ b.0, a.1 ∙ b.1)

-- a page whose slot stays, with the same transfers and nothing due
pub still_unmoved : (p q : Placement) (b c : Bytes) (w : Page) → slot_of q w ≡ slot_of p w → q.transfers ≡ p.transfers → due_of_page q.due w ≡ None
    → due_of_page p.due w ≡ None → SameBytes b c w → Unmoved p q b c w
still_unmoved p q b c w s t d e x = record {
  slot = s;
  due = d ∙ sym e;
  frames = λ g h. (ap (λ (fs : List (List ℕ)). Rattle.page_model.specs.Frames.at_frame fs g []) x.frames, ap (λ (ts : List Transfer). errand_at (parts_of ts) g) t);
  swap = x.swap;
  file = x.file;
  start = x.start;
  memory = x.memory;
  copied = inr (subst NoCopy (sym d) tt);
}

-- Sizes.

pub length_sized : (n : ℕ) (xs : List Slot) → length (sized n xs) ≡ n
length_sized zero xs = refl
length_sized (suc n) [] = ap suc (length_sized n [])
length_sized (suc n) (x ∷ xs) = ap suc (length_sized n xs)

sized_old : (n w : ℕ) (xs : List Slot) → w < n → w < length xs → get_or (sized n xs) w no_slot ≡ get_or xs w no_slot
sized_old zero w xs l m = absurd (omega arith)
sized_old (suc n) w [] l m = absurd (omega arith)
sized_old (suc n) zero (x ∷ xs) l m = refl
sized_old (suc n) (suc w) (x ∷ xs) l m = sized_old n w xs (omega arith) (omega arith)

sized_new : (n w : ℕ) (xs : List Slot) → w < n → length xs ≤ w → get_or (sized n xs) w no_slot ≡ unfilled Zeros
sized_new zero w xs l m = absurd (omega arith)
sized_new (suc n) zero [] l m = refl
sized_new (suc n) (suc w) [] l m = sized_new n w [] (omega arith) (omega arith)
sized_new (suc n) zero (x ∷ xs) l m = absurd (omega arith)
sized_new (suc n) (suc w) (x ∷ xs) l m = sized_new n w xs (omega arith) (omega arith)

-- a new page, of zeros
pub zero_keeps : (q : Placement) (c : Bytes) (w : Page) → slot_of q w ≡ unfilled Zeros → ((image v : ℕ) → w ≢ Text image v) → due_of_page q.due w ≡ None
    → zeros ≡ c.memory w → Keeps q c w
zero_keeps q c (Text image v) e n d z = absurd (n image v refl)
zero_keeps q c y e n d z = subst (KeepsBy q c y) (sym (ap (λ (x : Slot). x.state) e)) (
  subst (λ (f : Filling). Rattle.page_model.specs.PageBytes.KeepsUnfilled c y
      (due_of_page q.due y) f) (sym (ap (λ (x : Slot). x.filling) e)) (subst (λ (o : Option Due). Rattle.page_model.specs.PageBytes.KeepsUnfilled c y o Zeros) (sym d) z),
  tt,
)

-- What a new size does to a page that is there afterwards.
abbrev Resized : Placement → Placement → Page → Type 0
Resized p q w = (IsThere p w × (slot_of q w ≡ slot_of p w)) ⊎ ((slot_of q w ≡ unfilled Zeros) × ((image v : ℕ) → w ≢ Text image v) × (length (slots_of p w) ≤ number_of w))

resized_slot : (old new : List Slot) (n w : ℕ) → new ≡ sized n old → w < length new
    → ((w < length old) × (get_or new w no_slot ≡ get_or old w no_slot)) ⊎ ((get_or new w no_slot ≡ unfilled Zeros) × (length old ≤ w))
resized_slot old new n w e l =
    let m : w < n = (let h = ap length e ∙ length_sized n old in omega arith) in
    elim (cases_lt w (length old)) [
      | inl k ↦ inl (k, ap (λ (xs : List Slot). get_or xs w no_slot) e ∙ sized_old n w old m k)
      | inr k ↦ inr (ap (λ (xs : List Slot). get_or xs w no_slot) e ∙ sized_new n w old m k, k)
    ]

data_after : (d s : ℕ) (o : Option SpacePages) → (data_in (mapped (cut d s) o) ≡ data_in o) ⊎ (data_in (mapped (cut d s) o) ≡ sized d (data_in o))
data_after d s None = inl refl
data_after d s (Some x) = inr refl

stack_after : (d s : ℕ) (o : Option SpacePages) → (stack_in (mapped (cut d s) o) ≡ stack_in o) ⊎ (stack_in (mapped (cut d s) o) ≡ sized s (stack_in o))
stack_after d s None = inl refl
stack_after d s (Some x) = inr refl

by_segment : (p q : Placement) (w : Page) (n : ℕ) → ((image v : ℕ) → w ≢ Text image v)
    → (slots_of q w ≡ slots_of p w) ⊎ (slots_of q w ≡ sized n (slots_of p w)) → IsThere q w → Resized p q w
by_segment p q w n t (inl e) there = inl (subst (λ (k : ℕ). number_of w < k) (ap length e) there, ap (λ (xs : List Slot). get_or xs (number_of w) no_slot) e)
by_segment p q w n t (inr e) there = elim (resized_slot (slots_of p w) (slots_of q w) n (number_of w) e there) [
  | inl h ↦ inl h
  | inr h ↦ inr (h.0, t, h.1)
]

cut_resizes : (p : Placement) (sid d s : ℕ) (w : Page) → IsThere (cut_space p sid d s) w → Resized p (cut_space p sid d s) w
cut_resizes p sid d s (Data t v) there = by_segment p (cut_space p sid d s) (Data t v) d (λ i n h. absurd cc) (go (cases_eq t sid)) there
  where
    go : (t ≡ sid) ⊎ (t ≢ sid) → (slots_of (cut_space p sid d s) (Data t v) ≡ slots_of p (Data t v)) ⊎ (slots_of (cut_space p sid d s) (Data t v) ≡ sized d (slots_of p (Data t v)))
    go (inl e) = subst (λ (x : ℕ). (slots_of (cut_space p sid d s) (Data x v) ≡ slots_of p (Data x v)) ⊎ (slots_of (cut_space p sid d s) (Data x v) ≡ sized d (slots_of p (Data x v)))) (sym e)
        (subst (λ (o : Option SpacePages). (data_in o ≡ slots_of p (Data sid v)) ⊎ (data_in o ≡ sized d (slots_of p (Data sid v)))) (sym (changed_same space_number sid (cut d s) (λ x. refl) p.spaces))
        (data_after d s (numbered space_number sid p.spaces)))
    go (inr n) = inl (ap data_in (changed_other space_number sid t (cut d s) (λ x. refl) n p.spaces))
cut_resizes p sid d s (Stack t v) there = by_segment p (cut_space p sid d s) (Stack t v) s (λ i n h. absurd cc) (go (cases_eq t sid)) there
  where
    go : (t ≡ sid) ⊎ (t ≢ sid) → (slots_of (cut_space p sid d s) (Stack t v) ≡ slots_of p (Stack t v)) ⊎ (slots_of (cut_space p sid d s) (Stack t v) ≡ sized s (slots_of p (Stack t v)))
    go (inl e) = subst (λ (x : ℕ). (slots_of (cut_space p sid d s) (Stack x v) ≡ slots_of p (Stack x v)) ⊎ (slots_of (cut_space p sid d s) (Stack x v) ≡ sized s (slots_of p (Stack x v)))) (sym e)
        (subst (λ (o : Option SpacePages). (stack_in o ≡ slots_of p (Stack sid v)) ⊎ (stack_in o ≡ sized s (slots_of p (Stack sid v))))
        (sym (changed_same space_number sid (cut d s) (λ x. refl) p.spaces)) (stack_after d s (numbered space_number sid p.spaces)))
    go (inr n) = inl (ap stack_in (changed_other space_number sid t (cut d s) (λ x. refl) n p.spaces))
cut_resizes p sid d s (Text i v) there = inl (there, refl)

cut_within : (n w : ℕ) (new old : List Slot) → (new ≡ old × (old ≡ [])) ⊎ (new ≡ sized n old) → w < length new → w < n
cut_within n w new old (inl e) l = absurd (let a = ap length e.0 in let b = ap length e.1 in omega arith)
cut_within n w new old (inr e) l = let a = ap length e ∙ length_sized n old in omega arith

data_cut : (d s : ℕ) (o : Option SpacePages)
    → ((data_in (mapped (cut d s) o) ≡ data_in o) × (data_in o ≡ [])) ⊎ (data_in (mapped (cut d s) o) ≡ sized d (data_in o))
data_cut d s None = inl (refl, refl)
data_cut d s (Some x) = inr refl

stack_cut : (d s : ℕ) (o : Option SpacePages)
    → ((stack_in (mapped (cut d s) o) ≡ stack_in o) × (stack_in o ≡ [])) ⊎ (stack_in (mapped (cut d s) o) ≡ sized s (stack_in o))
stack_cut d s None = inl (refl, refl)
stack_cut d s (Some x) = inr refl

pub data_bound : (p : Placement) (sid d s v : ℕ) → IsThere (cut_space p sid d s) (Data sid v) → v < d
data_bound p sid d s v there = cut_within d v (slots_of (cut_space p sid d s) (Data sid v)) (slots_of p (Data sid v))
    (subst (λ (o : Option SpacePages). ((data_in o ≡ slots_of p (Data sid v)) × (slots_of p (Data sid v) ≡ [])) ⊎ (data_in o ≡ sized d (slots_of p (Data sid v))))
    (sym (changed_same space_number sid (cut d s) (λ x. refl) p.spaces)) (data_cut d s (numbered space_number sid p.spaces))) there

pub stack_bound : (p : Placement) (sid d s v : ℕ) → IsThere (cut_space p sid d s) (Stack sid v) → v < s
stack_bound p sid d s v there = cut_within s v (slots_of (cut_space p sid d s) (Stack sid v)) (slots_of p (Stack sid v))
    (subst (λ (o : Option SpacePages). ((stack_in o ≡ slots_of p (Stack sid v)) × (slots_of p (Stack sid v) ≡ [])) ⊎ (stack_in o ≡ sized s (slots_of p (Stack sid v))))
    (sym (changed_same space_number sid (cut d s) (λ x. refl) p.spaces)) (stack_cut d s (numbered space_number sid p.spaces))) there

-- pages of a space from a number on, and a page that isn't among them
pub apart_data : (sid lo n : ℕ) (w : Page) → ((v : ℕ) → lo ≤ v → w ≢ Data sid v) → EachPage (λ r. w ≢ r) (data_from sid lo n)
apart_data sid lo n w h = pages_from_each (λ r. w ≢ r) (Data sid lo) lo n (λ v l m. h v l)

pub apart_stack : (sid lo n : ℕ) (w : Page) → ((v : ℕ) → lo ≤ v → w ≢ Stack sid v) → EachPage (λ r. w ≢ r) (stack_from sid lo n)
apart_stack sid lo n w h = pages_from_each (λ r. w ≢ r) (Stack sid lo) lo n (λ v l m. h v l)

-- a page that is there after a new size was not dropped
kept_apart : (p p0 : Placement) (sid d s : ℕ) (w : Page) → IsThere (cut_space p sid d s) w → EachPage (λ r. w ≢ r) (dropped_pages p0 sid d s)
kept_apart p p0 sid d s w there = each_page_append (λ r. w ≢ r) (data_from sid d (data_count p0 sid - d)) (stack_from sid s (stack_count p0 sid - s))
    (apart_data sid d (data_count p0 sid - d) w (λ v l e. absurd (let h = data_bound p sid d s v (subst (IsThere (cut_space p sid d s)) e there) in omega arith)))
    (apart_stack sid s (stack_count p0 sid - s) w (λ v l e. absurd (let h = stack_bound p sid d s v (subst (IsThere (cut_space p sid d s)) e there) in omega arith)))

pub due_none : (ds : List Due) (w : Page) → ds ≡ [] → due_of_page ds w ≡ None
due_none ds w e = ap (λ (x : List Due). due_of_page x w) e

-- Growth and break: the pages that stay have their bytes, and the new ones have zeros.
pub resize_coupled : (p : Placement) (sid d s : ℕ) (b c : Bytes) → CouplesPages p b → p.due ≡ []
    → ((w : Page) → IsThere (resize p sid d s) w → IsThere p w → SameBytes b c w)
    → ((w : Page) → IsThere (resize p sid d s) w → length (slots_of p w) ≤ number_of w → zeros ≡ c.memory w)
    → ((image v : ℕ) → c.file (Text image v) ≡ c.memory (Text image v)) → CouplesPages (resize p sid d s) c
resize_coupled p sid d s b c k due same new text =
    let dropped : Placement = drop_all p (dropped_pages p sid d s) in
    let no_due : (resize p sid d s).due ≡ [] = (drop_all_rest (dropped_pages p sid d s) p).1 ∙ due in
    let one : (w : Page) → IsThere (resize p sid d s) w → (IsThere p w × Unmoved p (resize p sid d s) b c w) ⊎ Keeps (resize p sid d s) c w = λ w there.
    elim (cut_resizes dropped sid d s w there) [
      | inl h ↦ (let was : IsThere p w = (let e = drop_all_length (dropped_pages p sid d s) p w in let l = h.0 in omega arith) in
          inl (
            was,
            still_unmoved p (resize p sid d s) b c w (h.1 ∙ drop_all_other (dropped_pages p sid d s) p w (kept_apart dropped p sid d s w there))
                ((drop_all_rest (dropped_pages p sid d s) p).0) (due_none (resize p sid d s).due w no_due) (due_none p.due w due) (same w there was),
          ))
      | inr h ↦ inr
          (zero_keeps (resize p sid d s) c w h.0 h.1 (due_none (resize p sid d s).due w no_due) (new w there (let e = drop_all_length (dropped_pages p sid d s) p w in let l = h.2 in omega arith)))
    ] in
    changed_coupled p (resize p sid d s) b c k one text (λ i v. due_none (resize p sid d s).due (Text i v) no_due)

-- A space that goes: the pages of all others have their bytes.

pub removed_there : (p : Placement) (sid : ℕ) (w : Page) → IsThere (remove_space p sid) w
    → ((v : ℕ) → w ≢ Data sid v) × ((v : ℕ) → w ≢ Stack sid v) × (slots_of (remove_space p sid) w ≡ slots_of p w)
removed_there p sid (Data t v) there =
    let data_sid : (a b x y : ℕ) → Data a x ≡ Data b y → a ≡ b = λ a b x y h. cc in
    elim (cases_eq t sid) [
      | inl e ↦ absurd (let h : numbered space_number t (remove_space p sid).spaces ≡ None = ap (λ (x : ℕ). numbered space_number x (remove_space p sid).spaces) e ∙ removed_same sid p.spaces in
          let l = ap (λ (o : Option SpacePages). length (data_in o)) h in omega arith)
      | inr n ↦ ((λ x h. n (data_sid t sid v x h)), (λ x h. absurd cc), ap data_in (removed_other sid t p.spaces n))
    ]
removed_there p sid (Stack t v) there =
    let stack_sid : (a b x y : ℕ) → Stack a x ≡ Stack b y → a ≡ b = λ a b x y h. cc in
    elim (cases_eq t sid) [
      | inl e ↦ absurd (let h : numbered space_number t (remove_space p sid).spaces ≡ None = ap (λ (x : ℕ). numbered space_number x (remove_space p sid).spaces) e ∙ removed_same sid p.spaces in
          let l = ap (λ (o : Option SpacePages). length (stack_in o)) h in omega arith)
      | inr n ↦ ((λ x h. absurd cc), (λ x h. n (stack_sid t sid v x h)), ap stack_in (removed_other sid t p.spaces n))
    ]
removed_there p sid (Text i v) there = ((λ x h. absurd cc), (λ x h. absurd cc), refl)

pub removed_coupled : (p : Placement) (sid : ℕ) (b c : Bytes) → CouplesPages p b → p.due ≡ []
    → ((w : Page) → IsThere (remove_space (drop_all p (pages_of_space p sid)) sid) w → IsThere p w → SameBytes b c w)
    → ((image v : ℕ) → c.file (Text image v) ≡ c.memory (Text image v)) → CouplesPages (remove_space (drop_all p (pages_of_space p sid)) sid) c
removed_coupled p sid b c k due same text =
    let dropped : Placement = drop_all p (pages_of_space p sid) in
    let no_due : (remove_space dropped sid).due ≡ [] = (drop_all_rest (pages_of_space p sid) p).1 ∙ due in
    let one : (w : Page) → IsThere (remove_space dropped sid) w → (IsThere p w × Unmoved p (remove_space dropped sid) b c w) ⊎ Keeps (remove_space dropped sid) c w = λ w there.
    let r = removed_there dropped sid w there in
    let was : IsThere p w = (let e = drop_all_length (pages_of_space p sid) p w in let h = ap length r.2 in omega arith) in
    inl (
      was,
      still_unmoved p (remove_space dropped sid) b c w
          (ap (λ (xs : List Slot). get_or xs (number_of w) no_slot) r.2
          ∙ drop_all_other (pages_of_space p sid) p w (each_page_append (λ x. w ≢ x) (data_from sid 0 (data_count p sid)) (stack_from sid 0 (stack_count p sid))
          (apart_data sid 0 (data_count p sid) w (λ v l. r.0 v)) (apart_stack sid 0 (stack_count p sid) w (λ v l. r.1 v))))
          ((drop_all_rest (pages_of_space p sid) p).0) (due_none (remove_space dropped sid).due w no_due) (due_none p.due w due) (same w there was),
    ) in
    changed_coupled p (remove_space dropped sid) b c k one text (λ i v. due_none (remove_space dropped sid).due (Text i v) no_due)
