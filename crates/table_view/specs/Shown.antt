-- What the entry of a page and the slot of its frame show of the page.
use Rattle.std.specs.Prelude.{◌≡◌, ℕ, Bool, true, false, List, IsTrue}
use Rattle.vm_facts.specs.declared.page.PageState.{PageState}
use Rattle.vm_facts.specs.declared.page.PageState.TheVariants.{Unfilled, Valid, Invalid, Coming, Going, OnSwap}
use Rattle.space_map.specs.Place.{Place}
use Rattle.space_map.specs.Place.TheVariants as places
use Rattle.core_map.specs.declared.slot.Slot.{Slot}
use Rattle.core_map.specs.declared.slot.Slot.TheVariants.{Free, Resident, Away}
use Rattle.core_map.specs.Slots.{slot_at, is_resident}

-- the core map hasn't the frame's token, since it is in a transfer
abbrev pub is_away : Slot → Bool
is_away (Free token page) = false
is_away (Resident token page dirty) = false
is_away Away = true

-- the state of a page that has a frame and isn't valid: with the frame in a transfer it is written out where it was
-- changed, and else read in
abbrev pub idle_state : ℕ → Bool → Bool → PageState
idle_state f false changed = Invalid f
idle_state f true true = Going f
idle_state f true false = Coming f

-- the state of a page, by its entry and by the slot of its frame
abbrev pub state_shown : List Slot → Place → PageState
state_shown slots places.Zero = Unfilled
state_shown slots (places.Image v) = Unfilled
state_shown slots places.Swap = OnSwap
state_shown slots (places.Frame f true changed) = Valid f
state_shown slots (places.Frame f false changed) = idle_state f (is_away (slot_at slots f)) changed

-- by the slot of its frame, whether it is valid, and whether it is dirty: a valid page is in a resident frame, and the
-- mark of a resident frame says whether its page is dirty
abbrev pub MarkShown : Slot → Bool → Bool → Type 0
MarkShown (Free token page) valid dirty = valid ≡ false
MarkShown (Resident token page mark) valid dirty = mark ≡ dirty
MarkShown Away valid dirty = valid ≡ false

-- what the core map's mark says of a page, by the page's entry: nothing without a frame
abbrev pub ShowsMark : List Slot → Place → Bool → Type 0
ShowsMark slots places.Zero dirty = Unit {0}
ShowsMark slots (places.Image v) dirty = Unit {0}
ShowsMark slots places.Swap dirty = Unit {0}
ShowsMark slots (places.Frame f valid changed) dirty = MarkShown (slot_at slots f) valid dirty

-- a valid page is in a resident frame
abbrev pub IsSeatedIfValid : List Slot → Place → Type 0
IsSeatedIfValid slots places.Zero = Unit {0}
IsSeatedIfValid slots (places.Image v) = Unit {0}
IsSeatedIfValid slots places.Swap = Unit {0}
IsSeatedIfValid slots (places.Frame f true changed) = IsTrue (is_resident (slot_at slots f))
IsSeatedIfValid slots (places.Frame f false changed) = Unit {0}
