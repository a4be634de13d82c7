-- The core map as its callers see it: the free list, and a slot for each frame. Clauses of all crates above cite this.
use Rattle.std.specs.Prelude.{◌≡◌, ◌≢◌, ℕ, ◌<◌, ◌≤◌, ◌^◌, List, ◌∷◌, length, Option, Some, slice_set}
use Rattle.vm_facts.specs.declared.page.Page.{Page}
use Rattle.frame_state.specs.Frame.{Frame}
use Rattle.core_map.specs.declared.slot.Slot.{Slot}
use Rattle.core_map.specs.declared.slot.Slot.TheVariants.{Free, Away}
use Rattle.vm_facts.specs.Lists.{times}
use Rattle.core_map.specs.Slots.{slot_at, listings, slot_number, slot_page, IsWhole}

-- the free list from its head to its tail, and the slot of each frame by its number; slot 0 is no
-- frame's
pub record Frames : Type 0 where
  pub free : List ℕ
  pub slots : List Slot

-- a frame whose token the map does not have
pub record IsAway (map : Frames) (frame : ℕ) : Type 0 where
  pub above_zero : 0 < frame
  pub below : frame < length map.slots
  pub away : slot_at map.slots frame ≡ Away

-- no frame of the map holds the page
abbrev pub HoldsNot : Frames → Page → Type 0
HoldsNot map page = (frame : ℕ) → slot_page (slot_at map.slots frame) ≢ Some page

-- the head of the free list is taken: its token, and the page that it held
pub record TakesHead (old new : Frames) (token : Frame) (page : Option Page) : Type 0 where
  pub free : old.free ≡ token.number ∷ new.free
  pub was : slot_at old.slots token.number ≡ Free token page
  pub slots : new.slots ≡ slice_set old.slots token.number Away

-- what holds of every map: each token stands at its number and is whole, no page is in two frames, and
-- the free list has each free frame once and no other
pub record IsSoundMap (free : List ℕ) (slots : List Slot) : Type 0 where
  pub has_none : 0 < length slots
  pub small : length slots ≤ 2 ^ 32
  pub none : slot_at slots 0 ≡ Away
  pub numbered : (frame : ℕ) → slot_number (slot_at slots frame) frame ≡ frame
  pub whole : (frame : ℕ) → IsWhole (slot_at slots frame)
  pub unique : (f g : ℕ) (page : Page) → slot_page (slot_at slots f) ≡ Some page → slot_page (slot_at slots g) ≡ Some page → f ≡ g
  pub listed : (frame : ℕ) → times frame free ≡ listings (slot_at slots frame)
