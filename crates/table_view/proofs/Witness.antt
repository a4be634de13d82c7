-- A placement that a core map and a space show.
use Rattle.std.proofs.Common.{◌≡◌, ℕ, zero, suc, ◌<◌, ◌≤◌, not, Bool, true, false, cond, List, [], ◌∷◌, length, map, get_or, slice_get, Option, Some, None, IsTrue, refl, sym, ap, ◌∙◌, subst, arith}
use Rattle.vm_facts.specs.declared.page.Page.{Page}
use Rattle.vm_facts.specs.declared.page.Page.TheVariants.{Data, Stack, Text}
use Rattle.vm_facts.proofs.Tests.{eq_self}
use Rattle.space_map.specs.Place.{Place}
use Rattle.space_map.specs.Place.TheVariants as places
use Rattle.core_map.specs.declared.slot.Slot.{Slot as Token}
use Rattle.core_map.specs.declared.slot.Slot.TheVariants.{Free, Resident, Away}
use Rattle.core_map.specs.Frames.{Frames}
use Rattle.core_map.specs.Slots.{slot_at, is_resident, is_slot_dirty as marked_dirty}
use Rattle.space_map.specs.Space.{Places, place_in}
use Rattle.page_model.specs.PageNames.{number_of}
use Rattle.page_model.specs.Pages.{Slot, Zeros, no_slot, data_in, stack_in, text_in, is_dirty_by}
use Rattle.page_model.specs.Placement.{Placement, slots_of}
use Rattle.table_view.specs.Shown.{state_shown, ShowsMark, MarkShown, IsSeatedIfValid}
use Rattle.table_view.specs.Views.{IsNamedBy, ShowsPage, ShowsSpace, ValidAreSeated}

-- the mark of the page's frame
abbrev pub mark : List Token → Place → Bool
mark slots places.Zero = false
mark slots (places.Image v) = false
mark slots places.Swap = false
mark slots (places.Frame f valid changed) = marked_dirty (slot_at slots f)

-- a page of data or stack, and one of text, as its entry and its frame's slot have it
abbrev pub made : List Token → Place → Slot
made slots place = record { state = state_shown slots place; mark = mark slots place; filling = Zeros }

abbrev pub text_made : List Token → Place → Slot
text_made slots place = record { state = state_shown slots place; mark = not (mark slots place); filling = Zeros }

-- the space alone, with its text and the free list
abbrev pub witness : Frames → Places → Placement
witness core s = record {
  spaces = record { sid = s.sid; image = s.image; data_pages = map (made core.slots) s.data; stack_pages = map (made core.slots) s.stack } ∷ [];
  texts = record { image = s.image; text_pages = map (text_made core.slots) s.text } ∷ [];
  holds = [];
  free = core.free;
  transfers = [];
  front = 1;
  back = 1;
  residents = [];
  due = [];
}

marks_slot : (slot : Token) → IsTrue (is_resident slot) → MarkShown slot true (marked_dirty slot)
marks_slot (Resident token page dirty) h = refl
marks_slot (Free token page) h = absurd cc
marks_slot Away h = absurd cc

marks_idle : (slot : Token) → MarkShown slot false (marked_dirty slot)
marks_idle (Resident token page dirty) = refl
marks_idle (Free token page) = refl
marks_idle Away = refl

marks : (slots : List Token) (place : Place) → IsSeatedIfValid slots place → ShowsMark slots place (mark slots place)
marks slots places.Zero h = tt
marks slots (places.Image v) h = tt
marks slots places.Swap h = tt
marks slots (places.Frame f true changed) h = marks_slot (slot_at slots f) h
marks slots (places.Frame f false changed) h = marks_idle (slot_at slots f)

-- a page's entry and what is made of it stand at the same place
abbrev Found : (Place → Slot) → List Place → ℕ → Option Place → Type 0
Found make xs v None = length (map make xs) ≤ v
Found make xs v (Some place) = (v < length (map make xs)) × (get_or (map make xs) v no_slot ≡ make place)

more : (make : Place → Slot) (x : Place) (xs : List Place) (v : ℕ) (o : Option Place) → Found make xs v o → Found make (x ∷ xs) (suc v) o
more make x xs v None h = omega arith
more make x xs v (Some place) h = (let k = h.0 in omega arith, h.1)

found : (make : Place → Slot) (xs : List Place) (v : ℕ) → Found make xs v (slice_get xs v)
found make [] v = omega arith
found make (x ∷ xs) zero = (omega arith, refl)
found make (x ∷ xs) (suc v) = more make x xs v (slice_get xs v) (found make xs v)

double_not : (b : Bool) → not (not b) ≡ b
double_not true = refl
double_not false = refl

not_past : (a m n : ℕ) → m ≡ n → n ≤ a → a < m → ⊥
not_past a m n e f there = omega arith

in_past : (a m n : ℕ) → m ≡ n → a < n → a < m
in_past a m n e f = omega arith

shows : (p : Placement) (slots : List Token) (q : Page) (make : Place → Slot) (xs : List Place) (o : Option Place) → slots_of p q ≡ map make xs
    → Found make xs (number_of q) o
    → ((place : Place) → (make place).state ≡ state_shown slots place) → ((place : Place) → is_dirty_by q (make place).mark ≡ mark slots place)
    → ((place : Place) → o ≡ Some place → IsSeatedIfValid slots place) → ShowsPage p slots q o
shows p slots q make xs None e f st dm g = not_past (number_of q) (length (slots_of p q)) (length (map make xs)) (ap length e) f
shows p slots q make xs (Some place) e f st dm g =
    let is : get_or (slots_of p q) (number_of q) no_slot ≡ make place = ap (λ (ys : List Slot). get_or ys (number_of q) no_slot) e ∙ f.1 in (
      in_past (number_of q) (length (slots_of p q)) (length (map make xs)) (ap length e) f.0,
      ap (λ (y : Slot). y.state) is ∙ st place,
      subst (ShowsMark slots place) (sym (ap (λ (y : Slot). is_dirty_by q y.mark) is ∙ dm place)) (marks slots place (g place refl)),
    )

pages : (core : Frames) (s : Places) → ValidAreSeated core s → (q : Page) → IsNamedBy s q → ShowsPage (witness core s) core.slots q (place_in s q)
pages core s h (Data sid v) e =
    subst (λ (x : ℕ). ShowsPage (witness core s) core.slots (Data x v) (place_in s (Data x v))) (sym e)
    (let is : place_in s (Data s.sid v) ≡ slice_get s.data v = ap (λ (b : Bool). cond b (slice_get s.data v) None) (eq_self s.sid) in
    shows (witness core s) core.slots (Data s.sid v) (made core.slots) s.data (place_in s (Data s.sid v))
    (ap (λ (b : Bool). data_in (cond b (Some (record { sid = s.sid; image = s.image; data_pages = map (made core.slots) s.data; stack_pages = map (made core.slots) s.stack })) None)) (eq_self s.sid))
    (subst (Found (made core.slots) s.data v) (sym is) (found (made core.slots) s.data v)) (λ place. refl) (λ place. refl) (h (Data s.sid v)))
pages core s h (Stack sid v) e =
    subst (λ (x : ℕ). ShowsPage (witness core s) core.slots (Stack x v) (place_in s (Stack x v))) (sym e)
    (let is : place_in s (Stack s.sid v) ≡ slice_get s.stack v = ap (λ (b : Bool). cond b (slice_get s.stack v) None) (eq_self s.sid) in
    shows (witness core s) core.slots (Stack s.sid v) (made core.slots) s.stack (place_in s (Stack s.sid v))
    (ap (λ (b : Bool). stack_in (cond b (Some (record { sid = s.sid; image = s.image; data_pages = map (made core.slots) s.data; stack_pages = map (made core.slots) s.stack })) None)) (eq_self s.sid))
    (subst (Found (made core.slots) s.stack v) (sym is) (found (made core.slots) s.stack v)) (λ place. refl) (λ place. refl) (h (Stack s.sid v)))
pages core s h (Text image v) e =
    subst (λ (x : ℕ). ShowsPage (witness core s) core.slots (Text x v) (place_in s (Text x v))) (sym e)
    (let is : place_in s (Text s.image v) ≡ slice_get s.text v = ap (λ (b : Bool). cond b (slice_get s.text v) None) (eq_self s.image) in
    shows (witness core s) core.slots (Text s.image v) (text_made core.slots) s.text (place_in s (Text s.image v))
    (ap (λ (b : Bool). text_in (cond b (Some (record { image = s.image; text_pages = map (text_made core.slots) s.text })) None)) (eq_self s.image))
    (subst (Found (text_made core.slots) s.text v) (sym is) (found (text_made core.slots) s.text v)) (λ place. refl) (λ place. double_not (mark core.slots place)) (h (Text s.image v)))

pub is_shown : (core : Frames) (s : Places) → ValidAreSeated core s → ShowsSpace (witness core s) core s
is_shown core s h = record { free = refl; pages = pages core s h }
