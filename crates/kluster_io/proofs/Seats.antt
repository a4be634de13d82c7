-- A page is dirty in a frame off the free list where its frame's slot says so.
use Rattle.std.proofs.Common.{◌≡◌, ◌⊎◌, inl, inr, ℕ, ◌==◌, ◌&&◌, Bool, true, false, cond, List, Option, IsTrue, refl, sym, ap, ◌∙◌, subst}
use Rattle.vm_facts.specs.declared.page.Page.{Page}
use Rattle.vm_facts.specs.declared.page.PageState.{PageState}
use Rattle.vm_facts.specs.declared.page.PageState.TheVariants.{Valid}
use Rattle.vm_facts.specs.Lists.{times}
use Rattle.vax_pte.specs.declared.Place.{Place}
use Rattle.vax_pte.specs.declared.Place.TheVariants.{Frame}
use Rattle.vax_pte.specs.declared.Place.TheVariants as places
use Rattle.core_map.specs.declared.slot.Slot.{Slot}
use Rattle.core_map.specs.declared.slot.Slot.TheVariants.{Free, Resident, Away}
use Rattle.core_map.specs.declared.slot.Whose.{Whose}
use Rattle.core_map.specs.declared.slot.Whose.TheVariants as owners
use Rattle.core_map.specs.Slots.{slot_at, is_resident, is_slot_dirty, listings, slot_owner}
use Rattle.core_map.specs.Frames.{IsSoundMap}
use Rattle.page_model.specs.Placement.{Placement, state_of}
use Rattle.page_model.specs.Runs.{is_seated_by}
use Rattle.table_view.specs.Shown.{is_away, idle_state, state_shown, MarkShown, ShowsMark}

-- how often a frame stands on a free list that the map has
listed : (p : Placement) (free : List ℕ) (slots : List Slot) (f : ℕ) → IsSoundMap free slots → p.free ≡ free → times f p.free ≡ listings (slot_at slots f)
listed p free slots f s e = ap (times f) e ∙ s.listed f

-- by the slot, how often the frame is listed, and whether the page is valid
seat_by : (p : Placement) (f : ℕ) (slot : Slot) (valid changed dirty : Bool) → times f p.free ≡ listings slot → MarkShown slot valid dirty
    → IsTrue (is_resident slot)
    → is_slot_dirty slot ≡ (is_seated_by p (cond valid (Valid f) (idle_state f (is_away slot) changed)) && dirty)
seat_by p f (Resident token page mark) true changed dirty t m r = m
seat_by p f (Resident token page mark) false changed dirty t m r = m ∙ sym (ap (λ (n : ℕ). (n == 0) && dirty) t)
seat_by p f (Free token page) valid changed dirty t m r = absurd cc
seat_by p f Away valid changed dirty t m r = absurd cc

bare_by : (p : Placement) (f : ℕ) (slot : Slot) (valid changed dirty : Bool) → times f p.free ≡ listings slot → MarkShown slot valid dirty
    → is_resident slot ≡ false
    → false ≡ (is_seated_by p (cond valid (Valid f) (idle_state f (is_away slot) changed)) && dirty)
bare_by p f (Resident token page mark) valid changed dirty t m r = absurd cc
bare_by p f (Free token page) true changed dirty t m r = absurd cc
bare_by p f (Free token page) false changed dirty t m r = sym (ap (λ (n : ℕ). (n == 0) && dirty) t)
bare_by p f Away true changed dirty t m r = absurd cc
bare_by p f Away false true dirty t m r = refl
bare_by p f Away false false dirty t m r = refl

frame_shown : (slots : List Slot) (f : ℕ) (valid changed : Bool)
    → cond valid (Valid f) (idle_state f (is_away (slot_at slots f)) changed) ≡ state_shown slots (Frame f valid changed)
frame_shown slots f true changed = refl
frame_shown slots f false changed = refl

pub seat_shown : (p : Placement) (free : List ℕ) (slots : List Slot) (f : ℕ) (valid changed dirty : Bool) → IsSoundMap free slots → p.free ≡ free
    → ShowsMark slots (Frame f valid changed) dirty
    → IsTrue (is_resident (slot_at slots f)) → is_slot_dirty (slot_at slots f) ≡ (is_seated_by p (state_shown slots (Frame f valid changed)) && dirty)
seat_shown p free slots f valid changed dirty s e m r =
    seat_by p f (slot_at slots f) valid changed dirty (listed p free slots f s e) m r ∙ ap (λ (x : PageState). is_seated_by p x && dirty) (frame_shown slots f valid changed)

pub bare_shown : (p : Placement) (free : List ℕ) (slots : List Slot) (f : ℕ) (valid changed dirty : Bool) → IsSoundMap free slots → p.free ≡ free
    → ShowsMark slots (Frame f valid changed) dirty
    → is_resident (slot_at slots f) ≡ false → false ≡ (is_seated_by p (state_shown slots (Frame f valid changed)) && dirty)
bare_shown p free slots f valid changed dirty s e m r =
    bare_by p f (slot_at slots f) valid changed dirty (listed p free slots f s e) m r ∙ ap (λ (x : PageState). is_seated_by p x && dirty) (frame_shown slots f valid changed)

-- the owner of a frame is told to be free or away
pub not_resident : (slot : Slot) (o : Whose) → o ≡ slot_owner slot → ((x : Option Page) × (o ≡ owners.Free x)) ⊎ (o ≡ owners.Away) → is_resident slot ≡ false
not_resident (Free token page) o e h = refl
not_resident Away o e h = refl
not_resident (Resident token page mark) o e (inl h) = let k = h.1 in absurd cc
not_resident (Resident token page mark) o e (inr h) = absurd cc

-- The frame of a valid page isn't on the free list.

valid_by : (p : Placement) (f : ℕ) (slot : Slot) (dirty : Bool) → times f p.free ≡ listings slot → MarkShown slot true dirty → times f p.free ≡ 0
valid_by p f (Resident token page mark) dirty t m = t
valid_by p f (Free token page) dirty t m = absurd cc
valid_by p f Away dirty t m = absurd cc

valid_in : (p : Placement) (free : List ℕ) (slots : List Slot) (place : Place) (dirty : Bool) → IsSoundMap free slots → p.free ≡ free
    → ShowsMark slots place dirty
    → (f : ℕ) → state_shown slots place ≡ Valid f → times f p.free ≡ 0
valid_in p free slots places.Zero dirty s e m f h = absurd cc
valid_in p free slots (places.Image v) dirty s e m f h = absurd cc
valid_in p free slots places.Swap dirty s e m f h = absurd cc
valid_in p free slots (Frame g true changed) dirty s e m f h =
    let same : g ≡ f = cc in
    subst (λ (k : ℕ). times k p.free ≡ 0) same (valid_by p g (slot_at slots g) dirty (listed p free slots g s e) m)
valid_in p free slots (Frame g false changed) dirty s e m f h = absurd (idle_not (is_away (slot_at slots g)) changed h)
  where
    idle_not : (away changed : Bool) → idle_state g away changed ≡ Valid f → ⊥
    idle_not false changed h = absurd cc
    idle_not true true h = absurd cc
    idle_not true false h = absurd cc

pub valid_off : (p : Placement) (free : List ℕ) (slots : List Slot) (place : Place) (q : Page) (dirty : Bool) → IsSoundMap free slots → p.free ≡ free
    → ShowsMark slots place dirty
    → state_of p q ≡ state_shown slots place → (f : ℕ) → state_of p q ≡ Valid f → times f p.free ≡ 0
valid_off p free slots place q dirty s e m t f h = valid_in p free slots place dirty s e m f (sym t ∙ h)
