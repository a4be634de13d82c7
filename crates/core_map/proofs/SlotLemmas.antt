-- Facts on the slots of a sound core map.
use Rattle.std.proofs.Common.{◌≡◌, ◌≢◌, ℕ, ◌+◌, ◌<◌, List, [], ◌∷◌, ◌++◌, zero, suc, length, get_or, set, get_or-set_same, get_or-set_other, length-set, refl, sym, ap, subst, ◌∙◌, inl, inr, arith, Bool, true, false, Option, Some, None, map}
use Rattle.std.proofs.lemmas.Bool.{cases_lt, false≢true, cases_eq}
use Rattle.std.proofs.lemmas.List.{get_or_past, get_or_read, map-set, set-get_or}
use Rattle.std.specs.Prelude.{IfSome}
use Rattle.std.proofs.lemmas.Option.{none-some}
use Rattle.vm_facts.specs.declared.page.Page.{Page}
use Rattle.vm_facts.specs.declared.page.Page.TheVariants.{Text}
use Rattle.frame_state.specs.Frame.{Frame}
use Rattle.core_map.specs.declared.slot.Slot.{Slot}
use Rattle.core_map.specs.declared.slot.Slot.TheVariants.{Free, Resident, Away}
use Rattle.vm_facts.specs.Lists.{times, without, overwritten}
use Rattle.core_map.specs.declared.text_index.TextKey.{TextKey}
use Rattle.core_map.specs.Chains.{key_at}
use Rattle.core_map.specs.Slots.{slot_at, listings, is_free, is_resident, slot_number, slot_page, text_of, key_of, with_byte, with_bytes, with_dirty, IsWhole}
use Rattle.core_map.specs.Frames.{IsSoundMap}
use Rattle.vm_facts.proofs.Lists.{times-append, times_head, times_other, times-without_same, times-without_other}

-- a slot that is not away is in range
pub free_below : (slots : List Slot) (f : ℕ) → is_free (slot_at slots f) ≡ true → f < length slots
free_below slots f h = elim (cases_lt f (length slots)) [
  | inl low ↦ low
  | inr past ↦ absurd (false≢true (sym (ap is_free (get_or_past slots f Away past)) ∙ h))
]

pub resident_below : (slots : List Slot) (f : ℕ) → is_resident (slot_at slots f) ≡ true → f < length slots
resident_below slots f h = elim (cases_lt f (length slots)) [
  | inl low ↦ low
  | inr past ↦ absurd (false≢true (sym (ap is_resident (get_or_past slots f Away past)) ∙ h))
]

pub resident_parts : (s : Slot) → is_resident s ≡ true → (t : Frame) × (p : Page) × (d : Bool) × (s ≡ Resident t p d)
resident_parts (Free t p) h = absurd (false≢true h)
resident_parts (Resident t p d) h = (t, p, d, refl)
resident_parts Away h = absurd (false≢true h)

pub listings_free : (s : Slot) → is_free s ≡ true → listings s ≡ 1
listings_free (Free t p) h = refl
listings_free (Resident t p d) h = absurd (false≢true h)
listings_free Away h = absurd (false≢true h)

pub listings_other : (s : Slot) → is_free s ≡ false → listings s ≡ 0
listings_other (Free t p) h = absurd (false≢true (sym h))
listings_other (Resident t p d) h = refl
listings_other Away h = refl

pub free_above_zero : (free : List ℕ) (slots : List Slot) (f : ℕ) → IsSoundMap free slots → is_free (slot_at slots f) ≡ true → 0 < f
free_above_zero free slots zero sound frees = absurd (false≢true (sym (ap is_free sound.none) ∙ frees))
free_above_zero free slots (suc f) sound frees = omega arith

-- what stands in the free list is free
pub listed_free : (free : List ℕ) (slots : List Slot) (f : ℕ) → IsSoundMap free slots → 0 < times f free → is_free (slot_at slots f) ≡ true
listed_free free slots f sound h = go (is_free (slot_at slots f)) refl where
  go : (b : Bool) → is_free (slot_at slots f) ≡ b → is_free (slot_at slots f) ≡ true
  go true e = e
  go false e = absurd (omega (arith, sound.listed f, listings_other (slot_at slots f) e))

pub head_free : (free rest : List ℕ) (slots : List Slot) (f : ℕ) → IsSoundMap free slots → free ≡ f ∷ rest → is_free (slot_at slots f) ≡ true
head_free free rest slots f sound e = listed_free free slots f sound (subst (λ (l : List ℕ). 0 < times f l) (sym e) (omega (arith, times_head f rest)))

-- a slot that was read, at any default
pub slot_read : (slots : List Slot) (f : ℕ) (x : Slot) → f < length slots → x ≡ get_or slots f x → x ≡ slot_at slots f
slot_read slots f x low e = get_or_read slots f x low e Away

-- a change of one slot, and of how often its frame stands in the free list
pub sound_change : (free new : List ℕ) (slots : List Slot) (f : ℕ) (s : Slot) → IsSoundMap free slots → 0 < f → f < length slots
    → slot_number s f ≡ f → IsWhole s
    → ((g : ℕ) → g ≢ f → times g new ≡ times g free) → times f new ≡ listings s
    → ((p : Page) → slot_page s ≡ Some p → (g : ℕ) → g ≢ f → slot_page (slot_at slots g) ≢ Some p) → IsSoundMap new (set slots f s)
sound_change free new slots f s sound positive low number whole others here fresh = record {
  has_none = omega (arith, sound.has_none, length-set slots f s);
  small = omega (arith, sound.small, length-set slots f s);
  none = let ne : 0 ≢ f = omega arith in get_or-set_other slots f 0 s Away ne ∙ sound.none;
  numbered = λ g. elim (cases_eq g f) [
    | inl e ↦ subst (λ (k : ℕ). slot_number (slot_at (set slots f s) k) k ≡ k) (sym e) (ap (λ (t : Slot). slot_number t f) (get_or-set_same slots f s Away low) ∙ number)
    | inr ne ↦ ap (λ (t : Slot). slot_number t g) (get_or-set_other slots f g s Away ne) ∙ sound.numbered g
  ];
  whole = λ g. elim (cases_eq g f) [
    | inl e ↦ subst (λ (k : ℕ). IsWhole (slot_at (set slots f s) k)) (sym e) (subst IsWhole (sym (get_or-set_same slots f s Away low)) whole)
    | inr ne ↦ subst IsWhole (sym (get_or-set_other slots f g s Away ne)) (sound.whole g)
  ];
  unique = λ g h p eg eh. elim (cases_eq g f) [
    | inl e ↦ elim (cases_eq h f) [
      | inl e2 ↦ e ∙ sym e2
      | inr ne2 ↦ absurd (fresh p (at_new p g e eg) h ne2 (at_old p h ne2 eh))
    ]
    | inr ne ↦ elim (cases_eq h f) [
      | inl e2 ↦ absurd (fresh p (at_new p h e2 eh) g ne (at_old p g ne eg))
      | inr ne2 ↦ sound.unique g h p (at_old p g ne eg) (at_old p h ne2 eh)
    ]
  ];
  listed = λ g. elim (cases_eq g f) [
    | inl e ↦ subst (λ (k : ℕ). times k new ≡ listings (slot_at (set slots f s) k)) (sym e) (here ∙ sym (ap listings (get_or-set_same slots f s Away low)))
    | inr ne ↦ others g ne ∙ sound.listed g ∙ sym (ap listings (get_or-set_other slots f g s Away ne))
  ];
} where
  at_new : (p : Page) (g : ℕ) → g ≡ f → slot_page (slot_at (set slots f s) g) ≡ Some p → slot_page s ≡ Some p
  at_new p g e h = sym (ap slot_page (ap (slot_at (set slots f s)) e ∙ get_or-set_same slots f s Away low)) ∙ h

  at_old : (p : Page) (g : ℕ) → g ≢ f → slot_page (slot_at (set slots f s) g) ≡ Some p → slot_page (slot_at slots g) ≡ Some p
  at_old p g ne h = sym (ap slot_page (get_or-set_other slots f g s Away ne)) ∙ h

-- a slot with no page may come anywhere
pub no_page : (slots : List Slot) (f : ℕ) (s : Slot) → slot_page s ≡ None → (p : Page) → slot_page s ≡ Some p → (g : ℕ) → g ≢ f
    → slot_page (slot_at slots g) ≢ Some p
no_page slots f s e p h g ne k = none-some p (sym e ∙ h)

-- a page that no frame holds may come to one
pub held_by_none : (slots : List Slot) (f : ℕ) (s : Slot) (q : Page) → slot_page s ≡ Some q → ((g : ℕ) → slot_page (slot_at slots g) ≢ Some q)
    → (p : Page) → slot_page s ≡ Some p → (g : ℕ) → g ≢ f → slot_page (slot_at slots g) ≢ Some p
held_by_none slots f s q e none p h g ne k = none g (k ∙ sym h ∙ e)

-- the page that the slot held may stay
pub same_page : (free : List ℕ) (slots : List Slot) (f : ℕ) (s : Slot) → IsSoundMap free slots → slot_page s ≡ slot_page (slot_at slots f) → (p : Page)
    → slot_page s ≡ Some p → (g : ℕ) → g ≢ f → slot_page (slot_at slots g) ≢ Some p
same_page free slots f s sound e p h g ne k = ne (sound.unique g f p k (sym e ∙ h))

-- a frame that the slots do not show as free does not stand in the list
pub unlisted : (free : List ℕ) (slots : List Slot) (f : ℕ) → IsSoundMap free slots → slot_at slots f ≡ Away → times f free ≡ 0
unlisted free slots f sound e = sound.listed f ∙ ap listings e

-- a frame that was away comes to the tail of the list
pub sound_tail : (free : List ℕ) (slots : List Slot) (f : ℕ) (s : Slot) → IsSoundMap free slots → 0 < f → f < length slots → slot_at slots f ≡ Away
    → slot_number s f ≡ f → IsWhole s → is_free s ≡ true
    → ((p : Page) → slot_page s ≡ Some p → (g : ℕ) → g ≢ f → slot_page (slot_at slots g) ≢ Some p) → IsSoundMap (free ++ f ∷ []) (set slots f s)
sound_tail free slots f s sound positive low away number whole frees fresh =
    let off : times f free ≡ 0 = unlisted free slots f sound away in
    let one = listings_free s frees in
    sound_change free (free ++ f ∷ []) slots f s sound positive low number whole
    (λ g ne. omega (arith, times-append g free (f ∷ []), times_other g f [] (λ e. ne (sym e))))
    (omega (arith, one, times-append f free (f ∷ []), times_head f [], off))
    fresh

-- a frame that was away comes to the head of the list
pub sound_head : (free : List ℕ) (slots : List Slot) (f : ℕ) (s : Slot) → IsSoundMap free slots → 0 < f → f < length slots → slot_at slots f ≡ Away
    → slot_number s f ≡ f → IsWhole s → is_free s ≡ true
    → slot_page s ≡ None → IsSoundMap (f ∷ free) (set slots f s)
sound_head free slots f s sound positive low away number whole frees none =
    let off : times f free ≡ 0 = unlisted free slots f sound away in
    let one = listings_free s frees in
    sound_change free (f ∷ free) slots f s sound positive low number whole
    (λ g ne. times_other g f free (λ e. ne (sym e)))
    (omega (arith, one, times_head f free, off))
    (no_page slots f s none)

-- a frame of the list leaves it
pub sound_without : (free : List ℕ) (slots : List Slot) (f : ℕ) → IsSoundMap free slots → is_free (slot_at slots f) ≡ true
    → IsSoundMap (without f free) (set slots f Away)
sound_without free slots f sound frees =
    let positive : 0 < f = free_above_zero free slots f sound frees in
    sound_change free (without f free) slots f Away sound positive (free_below slots f frees) refl tt
    (λ g ne. times-without_other f g free ne)
    (times-without_same f free)
    (no_page slots f Away refl)

-- a free frame moves to the head of the list
pub sound_forget : (free : List ℕ) (slots : List Slot) (f : ℕ) (s : Slot) → IsSoundMap free slots → is_free (slot_at slots f) ≡ true → slot_number s f ≡ f
    → IsWhole s → is_free s ≡ true → slot_page s ≡ None
    → IsSoundMap (f ∷ without f free) (set slots f s)
sound_forget free slots f s sound frees number whole frees_new none =
    let positive : 0 < f = free_above_zero free slots f sound frees in
    let one = listings_free s frees_new in
    sound_change free (f ∷ without f free) slots f s sound positive (free_below slots f frees) number whole
    (λ g ne. times_other g f (without f free) (λ e. ne (sym e)) ∙ times-without_other f g free ne)
    (omega (arith, one, times_head f (without f free), times-without_same f free))
    (no_page slots f s none)

-- the head of the list is taken
pub sound_taken : (free rest : List ℕ) (slots : List Slot) (f : ℕ) → IsSoundMap free slots → free ≡ f ∷ rest → IsSoundMap rest (set slots f Away)
sound_taken free rest slots f sound e =
    let frees = head_free free rest slots f sound e in
    let count : (g : ℕ) → times g free ≡ times g (f ∷ rest) = λ g. ap (times g) e in
    sound_change free rest slots f Away sound (free_above_zero free slots f sound frees) (free_below slots f frees) refl tt
    (λ g ne. sym (count g ∙ times_other g f rest (λ e2. ne (sym e2))))
    (omega (arith, count f, times_head f rest, sound.listed f, listings_free (slot_at slots f) frees))
    (no_page slots f Away refl)

-- a slot changes, and its frame stays on or off the list
pub sound_same : (free : List ℕ) (slots : List Slot) (f : ℕ) (s : Slot) → IsSoundMap free slots → 0 < f → f < length slots → slot_number s f ≡ f
    → IsWhole s → listings s ≡ listings (slot_at slots f)
    → ((p : Page) → slot_page s ≡ Some p → (g : ℕ) → g ≢ f → slot_page (slot_at slots g) ≢ Some p) → IsSoundMap free (set slots f s)
sound_same free slots f s sound positive low number whole listing fresh =
    sound_change free free slots f s sound positive low number whole (λ g ne. refl) (sound.listed f ∙ sym listing) fresh

pub resident_above_zero : (free : List ℕ) (slots : List Slot) (f : ℕ) → IsSoundMap free slots → is_resident (slot_at slots f) ≡ true → 0 < f
resident_above_zero free slots zero sound res = absurd (false≢true (sym (ap is_resident sound.none) ∙ res))
resident_above_zero free slots (suc f) sound res = omega arith

-- a resident slot keeps its token's number and its page
pub sound_resident : (free : List ℕ) (slots : List Slot) (f : ℕ) (s : Slot) → IsSoundMap free slots → is_resident (slot_at slots f) ≡ true
    → is_resident s ≡ true → IsWhole s
    → slot_number s f ≡ slot_number (slot_at slots f) f → slot_page s ≡ slot_page (slot_at slots f) → IsSoundMap free (set slots f s)
sound_resident free slots f s sound res new whole number page =
    let was = resident_parts (slot_at slots f) res in
    let is = resident_parts s new in
    sound_same free slots f s sound (resident_above_zero free slots f sound res) (resident_below slots f res) (number ∙ sound.numbered f) whole
    (ap listings is.3 ∙ sym (ap listings was.3))
    (same_page free slots f s sound page)

-- a resident frame goes
pub sound_lifted : (free : List ℕ) (slots : List Slot) (f : ℕ) → IsSoundMap free slots → is_resident (slot_at slots f) ≡ true
    → IsSoundMap free (set slots f Away)
sound_lifted free slots f sound res =
    let was = resident_parts (slot_at slots f) res in
    sound_same free slots f Away sound (resident_above_zero free slots f sound res) (resident_below slots f res) refl tt (sym (ap listings was.3)) (no_page slots f Away refl)

-- the keys of the slots
pub key_at_map : (slots : List Slot) (f : ℕ) → key_at (map text_of slots) f ≡ text_of (slot_at slots f)
key_at_map [] f = refl
key_at_map (s ∷ slots) zero = refl
key_at_map (s ∷ slots) (suc f) = key_at_map slots f

pub text_change : (text : List (Option TextKey)) (slots : List Slot) (f : ℕ) (s : Slot) → text ≡ map text_of slots
    → set text f (text_of s) ≡ map text_of (set slots f s)
text_change text slots f s e = ap (λ (k : List (Option TextKey)). set k f (text_of s)) e ∙ sym (map-set text_of slots f s)

pub text_same : (text : List (Option TextKey)) (slots : List Slot) (f : ℕ) (s : Slot) → text ≡ map text_of slots
    → text_of s ≡ text_of (slot_at slots f) → text ≡ map text_of (set slots f s)
text_same text slots f s e same =
    e ∙ sym (set-get_or (map text_of slots) f None) ∙ ap (set (map text_of slots) f) (key_at_map slots f ∙ sym same) ∙ sym (map-set text_of slots f s)

-- a slot whose key is that of a text page holds the page
pub text_held : (s : Slot) (image v : ℕ) → slot_page s ≡ Some (Text image v) → text_of s ≡ Some (record { image = image; v = v })
text_held s image v e = ap key_of e

-- a byte or a mark changes neither who holds the frame nor its page
pub is_resident-with_byte : (s : Slot) (at b : ℕ) → is_resident (with_byte s at b) ≡ is_resident s
is_resident-with_byte (Free t p) at b = refl
is_resident-with_byte (Resident t p d) at b = refl
is_resident-with_byte Away at b = refl

pub number_of-with_byte : (s : Slot) (at b f : ℕ) → slot_number (with_byte s at b) f ≡ slot_number s f
number_of-with_byte (Free t p) at b f = refl
number_of-with_byte (Resident t p d) at b f = refl
number_of-with_byte Away at b f = refl

pub page_of-with_byte : (s : Slot) (at b : ℕ) → slot_page (with_byte s at b) ≡ slot_page s
page_of-with_byte (Free t p) at b = refl
page_of-with_byte (Resident t p d) at b = refl
page_of-with_byte Away at b = refl

pub is_resident-with_dirty : (s : Slot) (m : Bool) → is_resident (with_dirty s m) ≡ is_resident s
is_resident-with_dirty (Free t p) m = refl
is_resident-with_dirty (Resident t p d) m = refl
is_resident-with_dirty Away m = refl

pub number_of-with_dirty : (s : Slot) (m : Bool) (f : ℕ) → slot_number (with_dirty s m) f ≡ slot_number s f
number_of-with_dirty (Free t p) m f = refl
number_of-with_dirty (Resident t p d) m f = refl
number_of-with_dirty Away m f = refl

pub page_of-with_dirty : (s : Slot) (m : Bool) → slot_page (with_dirty s m) ≡ slot_page s
page_of-with_dirty (Free t p) m = refl
page_of-with_dirty (Resident t p d) m = refl
page_of-with_dirty Away m = refl

pub is_resident-with_bytes : (s : Slot) (at : ℕ) (bs : List ℕ) → is_resident (with_bytes s at bs) ≡ is_resident s
is_resident-with_bytes (Free t p) at bs = refl
is_resident-with_bytes (Resident t p d) at bs = refl
is_resident-with_bytes Away at bs = refl

pub number_of-with_bytes : (s : Slot) (at : ℕ) (bs : List ℕ) (f : ℕ) → slot_number (with_bytes s at bs) f ≡ slot_number s f
number_of-with_bytes (Free t p) at bs f = refl
number_of-with_bytes (Resident t p d) at bs f = refl
number_of-with_bytes Away at bs f = refl

pub page_of-with_bytes : (s : Slot) (at : ℕ) (bs : List ℕ) → slot_page (with_bytes s at bs) ≡ slot_page s
page_of-with_bytes (Free t p) at bs = refl
page_of-with_bytes (Resident t p d) at bs = refl
page_of-with_bytes Away at bs = refl

pub length-overwritten : (xs : List ℕ) (at : ℕ) (ys : List ℕ) → length (overwritten xs at ys) ≡ length xs
length-overwritten xs at [] = refl
length-overwritten xs at (y ∷ ys) = length-overwritten (set xs at y) (at + 1) ys ∙ length-set xs at y

IsWhole-with_bytes : (s : Slot) (at : ℕ) (bs : List ℕ) → IsWhole s → IsWhole (with_bytes s at bs)
IsWhole-with_bytes (Free t p) at bs h = h
IsWhole-with_bytes (Resident t p d) at bs h = length-overwritten t.bytes at bs ∙ h
IsWhole-with_bytes Away at bs h = tt

IsWhole-with_byte : (s : Slot) (at b : ℕ) → IsWhole s → IsWhole (with_byte s at b)
IsWhole-with_byte (Free t p) at b h = h
IsWhole-with_byte (Resident t p d) at b h = length-set t.bytes at b ∙ h
IsWhole-with_byte Away at b h = tt

IsWhole-with_dirty : (s : Slot) (m : Bool) → IsWhole s → IsWhole (with_dirty s m)
IsWhole-with_dirty (Free t p) m h = h
IsWhole-with_dirty (Resident t p d) m h = h
IsWhole-with_dirty Away m h = tt

pub sound_byte : (free : List ℕ) (slots : List Slot) (f at b : ℕ) → IsSoundMap free slots → is_resident (slot_at slots f) ≡ true
    → IsSoundMap free (set slots f (with_byte (slot_at slots f) at b))
sound_byte free slots f at b sound res =
    let s = slot_at slots f in
    sound_resident free slots f (with_byte s at b) sound res (is_resident-with_byte s at b ∙ res) (IsWhole-with_byte s at b (sound.whole f)) (number_of-with_byte s at b f) (page_of-with_byte s at b)

pub sound_bytes : (free : List ℕ) (slots : List Slot) (f at : ℕ) (bs : List ℕ) → IsSoundMap free slots → is_resident (slot_at slots f) ≡ true
    → IsSoundMap free (set slots f (with_bytes (slot_at slots f) at bs))
sound_bytes free slots f at bs sound res =
    let s = slot_at slots f in
    sound_resident free slots f (with_bytes s at bs) sound res (is_resident-with_bytes s at bs ∙ res) (IsWhole-with_bytes s at bs (sound.whole f))
    (number_of-with_bytes s at bs f) (page_of-with_bytes s at bs)

pub sound_dirty : (free : List ℕ) (slots : List Slot) (f : ℕ) (m : Bool) → IsSoundMap free slots → is_resident (slot_at slots f) ≡ true
    → IsSoundMap free (set slots f (with_dirty (slot_at slots f) m))
sound_dirty free slots f m sound res =
    let s = slot_at slots f in
    sound_resident free slots f (with_dirty s m) sound res (is_resident-with_dirty s m ∙ res) (IsWhole-with_dirty s m (sound.whole f)) (number_of-with_dirty s m f) (page_of-with_dirty s m)

-- a page whose frame went is held by no other
pub page_gone : (free : List ℕ) (slots : List Slot) (f : ℕ) → IsSoundMap free slots → f < length slots → (o : Option Page)
    → slot_page (slot_at slots f) ≡ o → IfSome o (λ p. (g : ℕ) → slot_page (slot_at (set slots f Away) g) ≢ Some p)
page_gone free slots f sound low None e = tt
page_gone free slots f sound low (Some p) e = λ g h. elim (cases_eq g f) [
  | inl same ↦ none-some p (sym (ap slot_page (ap (slot_at (set slots f Away)) same ∙ get_or-set_same slots f Away Away low)) ∙ h)
  | inr ne ↦ ne (sound.unique g f p (sym (ap slot_page (get_or-set_other slots f g Away Away ne)) ∙ h) e)
]
