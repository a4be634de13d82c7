-- A space that comes: what the tables show once it is there.
use Rattle.std.proofs.Common.{◌≡◌, inl, inr, ℕ, zero, suc, ◌+◌, ◌-◌, ◌<◌, Bool, false, List, [], ◌∷◌, ◌++◌, map, Option, Some, None, slice_get, refl, sym, ap, ◌∙◌, arith}
use Rattle.std.specs.Prelude.{slice_index_or, slice_set}
use Rattle.std.specs.List.{range_with_len}
use Rattle.std.proofs.lemmas.Bool.{cases_eq}
use Rattle.std.proofs.lemmas.List.{map-append}
use Rattle.std.proofs.lemmas.Option.{same_Some}
use Rattle.vm_facts.specs.declared.page.Page.{Page}
use Rattle.vm_facts.specs.declared.page.Page.TheVariants.{Text}
use Rattle.vax_pte.specs.declared.Place.{Place}
use Rattle.aout_image.specs.declared.Image.{Image}
use Rattle.aout_image.specs.Image.{text_pages_of}
use Rattle.core_map.specs.declared.slot.Slot.{Slot as Token}
use Rattle.space_map.specs.Space.{Places, place_in}
use Rattle.text_table.specs.Texts.{is_saved, text_numbered, entered, unused_text, Text as SharedText}
use Rattle.page_model.specs.Pages.{Slot, TextPages}
use Rattle.page_model.specs.Placement.{Placement}
use Rattle.kernel_tables.specs.declared.fill.DueFill.{DueFill}
use Rattle.kernel_tables.specs.Shown.{or_else, entry_in, text_shown, space_shown}
use Rattle.kernel_tables.specs.View.{Lists, text_place, text_place_by, text_slot, text_slots, texts_of, placement_of, due_shown}
use Rattle.kernel_tables.specs.Added.{with_text_places, entered_texts, with_space}
use Rattle.kernel_tables.proofs.Entries.{text_hit, text_miss}
use Rattle.kernel_tables.proofs.Held.{placement_ext}

-- Entries, with one space more.

or_else_twice : {A : Type 0} (a b c : Option A) → or_else a (or_else b c) ≡ or_else (or_else a b) c
or_else_twice (Some x) b c = refl
or_else_twice None b c = refl

pub or_else_none : {A : Type 0} (o : Option A) → or_else o None ≡ o
or_else_none (Some x) = refl
or_else_none None = refl

pub entry_last : (ss : List Places) (s : Places) (q : Page) → entry_in (ss ++ s ∷ []) q ≡ or_else (entry_in ss q) (place_in s q)
entry_last [] s q = or_else_none (place_in s q)
entry_last (r ∷ ss) s q = ap (or_else (place_in r q)) (entry_last ss s q) ∙ or_else_twice (place_in r q) (entry_in ss q) (place_in s q)

-- what stands at a place of a list that goes by numbers
pub at_range : {A : Type 0} (f : ℕ → A) (a n v : ℕ) (x : A) → slice_get (map f (range_with_len a n)) v ≡ Some x → x ≡ f (a + v)
at_range f a zero v x e = absurd cc
at_range f a (suc n) zero x e = sym (same_Some (f a) x e) ∙ ap f (let z : a ≡ a + 0 = omega arith in z)
at_range f a (suc n) (suc v) x e = at_range f (a + 1) n v x e ∙ ap f (let z : (a + 1) + v ≡ a + suc v = omega arith in z)

pub range_below : {A : Type 0} (f : ℕ → A) (a n v : ℕ) (x : A) → slice_get (map f (range_with_len a n)) v ≡ Some x → v < n
range_below f a zero v x e = absurd cc
range_below f a (suc n) zero x e = omega arith
range_below f a (suc n) (suc v) x e = let l = range_below f (a + 1) n v x e in omega arith

-- a page of text has the same entry in the new space as in those before it
pub text_added : (t : Lists) (s : Places) (i v : ℕ) (x : Place) → place_in (with_text_places t s) (Text i v) ≡ Some x
    → x ≡ text_place t.spaces t.slots (Text i v) v
text_added t s i v x e = elim (cases_eq i s.image) [
  | inl is ↦
      at_range (λ w. text_place t.spaces t.slots (Text s.image w) w) 0 (text_pages_of s.facts) v x (sym (text_hit (with_text_places t s) i v is) ∙ e)
      ∙ ap (λ (n : ℕ). text_place t.spaces t.slots (Text s.image n) n) (let z : 0 + v ≡ v = omega arith in z)
      ∙ ap (λ (n : ℕ). text_place t.spaces t.slots (Text n v) v) (sym is)
  | inr not ↦ absurd (let k = sym (text_miss (with_text_places t s) i v not) ∙ e in cc)
]

place_still : (slots : List Token) (q : Page) (v : ℕ) (o n : Option Place) → ((x : Place) → n ≡ Some x → x ≡ text_place_by o slots q v)
    → text_place_by (or_else o n) slots q v ≡ text_place_by o slots q v
place_still slots q v (Some x) n h = refl
place_still slots q v None None h = refl
place_still slots q v None (Some x) h = h x refl

pub text_place_still : (t : Lists) (s : Places) (i v : ℕ)
    → text_place (t.spaces ++ with_text_places t s ∷ []) t.slots (Text i v) v ≡ text_place t.spaces t.slots (Text i v) v
text_place_still t s i v =
    ap (λ (o : Option Place). text_place_by o t.slots (Text i v) v) (entry_last t.spaces (with_text_places t s) (Text i v))
    ∙ place_still t.slots (Text i v) v (entry_in t.spaces (Text i v)) (place_in (with_text_places t s) (Text i v)) (text_added t s i v)

-- What is saved stays so.

saved_still_at : (ts : List SharedText) (n m : ℕ)
    → (slice_index_or (slice_set ts n (entered (slice_index_or ts n unused_text))) m unused_text).saved ≡ (slice_index_or ts m unused_text).saved
saved_still_at [] n m = refl
saved_still_at (y ∷ ts) zero zero = refl
saved_still_at (y ∷ ts) zero (suc m) = refl
saved_still_at (y ∷ ts) (suc n) zero = refl
saved_still_at (y ∷ ts) (suc n) (suc m) = saved_still_at ts n m

pub saved_still : (ts : List SharedText) (image i v : ℕ) → is_saved (text_numbered (entered_texts ts image) i) v ≡ is_saved (text_numbered ts i) v
saved_still ts image i v = ap (λ (bs : List Bool). slice_index_or bs v false) (saved_still_at ts (image - 1) (i - 1))

slot_still : (t : Lists) (s : Places) (fills : List DueFill) (i v : ℕ) → text_slot (with_space t s fills) i v ≡ text_slot t i v
slot_still t s fills i v =
    ap (λ (b : Bool). text_shown t.slots b (text_place (t.spaces ++ with_text_places t s ∷ []) t.slots (Text i v) v)) (saved_still t.texts s.image i v)
    ∙ ap (text_shown t.slots (is_saved (text_numbered t.texts i) v)) (text_place_still t s i v)

slots_still : (f g : ℕ → Slot) (ns : List ℕ) → ((n : ℕ) → f n ≡ g n) → map f ns ≡ map g ns
slots_still f g [] e = refl
slots_still f g (n ∷ ns) e = ap (λ (x : Slot). x ∷ map f ns) (e n) ∙ ap (λ (xs : List Slot). g n ∷ xs) (slots_still f g ns e)

texts_still : (t : Lists) (s : Places) (fills : List DueFill) (n : ℕ) (more : List Image) → texts_of (with_space t s fills) n more ≡ texts_of t n more
texts_still t s fills n [] = refl
texts_still t s fills n (x ∷ more) =
    ap (λ (ss : List Slot). record { image = n; text_pages = ss } ∷ texts_of (with_space t s fills) (n + 1) more)
    (slots_still (text_slot (with_space t s fills) n) (text_slot t n) (range_with_len 0 (text_pages_of x)) (slot_still t s fills n))
    ∙ ap (λ (ts : List TextPages). record { image = n; text_pages = text_slots t n (text_pages_of x) } ∷ ts) (texts_still t s fills (n + 1) more)

-- The whole.

-- a space more, and these fills are due
abbrev pub added_place : Lists → Places → List DueFill → Placement
added_place t s fills = record (placement_of t) { spaces = (placement_of t).spaces ++ space_shown t.slots s ∷ []; due = map due_shown fills }

pub place_added : (t : Lists) (s : Places) (fills : List DueFill) → placement_of (with_space t s fills) ≡ added_place t s fills
place_added t s fills =
    placement_ext (placement_of (with_space t s fills)) (added_place t s fills)
    (map-append (space_shown t.slots) t.spaces (with_text_places t s ∷ []))
    (texts_still t s fills 1 t.facts)
    refl refl refl refl refl refl refl
