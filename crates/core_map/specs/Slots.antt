-- What the core map has for one frame: free, resident or away, with its page and its mark.
use Rattle.std.specs.Prelude.{◌≡◌, ℕ, List, Bool, true, false, Option, Some, None, IsTrue, length, slice_set, slice_index_or, []}
use Rattle.vm_facts.specs.Lists.{overwritten}
use Rattle.vm_facts.specs.declared.page.Page.{Page}
use Rattle.vm_facts.specs.declared.page.Page.TheVariants.{Data, Stack, Text}
use Rattle.frame_state.specs.Frame.{Frame}
use Rattle.core_map.specs.declared.text_index.TextKey.{TextKey}
use Rattle.core_map.specs.declared.slot.Slot.{Slot}
use Rattle.core_map.specs.declared.slot.Slot.TheVariants.{Free, Resident, Away}
use Rattle.core_map.specs.declared.slot.Whose.{Whose}
use Rattle.core_map.specs.declared.slot.Whose.TheVariants.{Free as FreeOwner, Resident as ResidentOwner, Away as AwayOwner}

-- the slot of a frame; a number that is no frame's is away
abbrev pub slot_at : List Slot → ℕ → Slot
slot_at slots frame = slice_index_or slots frame Away

-- the frame is on the free list
abbrev pub is_free : Slot → Bool
is_free (Free token page) = true
is_free (Resident token page dirty) = false
is_free Away = false

-- the frame is off the free list, and holds a page
abbrev pub is_resident : Slot → Bool
is_resident (Free token page) = false
is_resident (Resident token page dirty) = true
is_resident Away = false

-- whose the frame is
abbrev pub slot_owner : Slot → Whose
slot_owner (Free token page) = FreeOwner page
slot_owner (Resident token page dirty) = ResidentOwner page
slot_owner Away = AwayOwner

-- the page that the frame holds
abbrev pub slot_page : Slot → Option Page
slot_page (Free token page) = page
slot_page (Resident token page dirty) = Some page
slot_page Away = None

-- what it says of the slot that a frame is so owned
abbrev pub ShowsOwner : Whose → Slot → Type 0
ShowsOwner (FreeOwner page) slot = IsTrue (is_free slot) × (slot_page slot ≡ page)
ShowsOwner (ResidentOwner page) slot = IsTrue (is_resident slot) × (slot_page slot ≡ Some page)
ShowsOwner AwayOwner slot = slot ≡ Away

-- the token, where there is one
abbrev pub token_of : Slot → Frame
token_of (Free token page) = token
token_of (Resident token page dirty) = token
token_of Away = record { number = 0; bytes = [] }

-- the frame is off the free list with the mark that its page is dirty
abbrev pub is_slot_dirty : Slot → Bool
is_slot_dirty (Free token page) = false
is_slot_dirty (Resident token page dirty) = dirty
is_slot_dirty Away = false

-- a resident frame after one of its bytes was written
abbrev pub with_byte : Slot → ℕ → ℕ → Slot
with_byte (Free token page) at byte = Free token page
with_byte (Resident token page dirty) at byte = Resident (record token { bytes = slice_set token.bytes at byte }) page dirty
with_byte Away at byte = Away

-- a resident frame after its bytes from a place on were written
abbrev pub with_bytes : Slot → ℕ → List ℕ → Slot
with_bytes (Free token page) at bytes = Free token page
with_bytes (Resident token page dirty) at bytes = Resident (record token { bytes = overwritten token.bytes at bytes }) page dirty
with_bytes Away at bytes = Away

-- a resident frame with this mark
abbrev pub with_dirty : Slot → Bool → Slot
with_dirty (Free token page) mark = Free token page
with_dirty (Resident token page dirty) mark = Resident token page mark
with_dirty Away mark = Away

-- how often the frame stands in the free list
abbrev pub listings : Slot → ℕ
listings (Free token page) = 1
listings (Resident token page dirty) = 0
listings Away = 0

-- the number of the token, or the frame's own where it is away
abbrev pub slot_number : Slot → ℕ → ℕ
slot_number (Free token page) frame = token.number
slot_number (Resident token page dirty) frame = token.number
slot_number Away frame = frame

-- a token has the 1,024 bytes of a page
abbrev pub IsWhole : Slot → Type 0
IsWhole (Free token page) = length token.bytes ≡ 1024
IsWhole (Resident token page dirty) = length token.bytes ≡ 1024
IsWhole Away = Unit {0}

-- the key of a text page
abbrev pub key_of : Option Page → Option TextKey
key_of None = None
key_of (Some (Data sid v)) = None
key_of (Some (Stack sid v)) = None
key_of (Some (Text image v)) = Some (record { image = image; v = v })

-- the key of the text page that the frame holds
abbrev pub text_of : Slot → Option TextKey
text_of slot = key_of (slot_page slot)
