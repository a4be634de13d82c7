-- What single moves of the tables do to the lists of entries, frames and pages.
use Rattle.std.specs.Prelude.{◌≡◌, ℕ, ◌<◌, ◌≤◌, Bool, true, false, not, List, [], ◌∷◌, ◌++◌, map, Option, Some, None, slice_set}
use Rattle.vm_facts.specs.declared.page.Page.{Page}
use Rattle.vm_facts.specs.declared.page.Page.TheVariants.{Data, Stack, Text}
use Rattle.vax_pte.specs.declared.Place.{Place}
use Rattle.vax_pte.specs.declared.Place.TheVariants as places
use Rattle.frame_state.specs.Frame.{Frame}
use Rattle.core_map.specs.declared.slot.Slot.{Slot as Token}
use Rattle.core_map.specs.declared.slot.Slot.TheVariants as tokens
use Rattle.core_map.specs.Slots.{slot_at, slot_page}
use Rattle.space_map.specs.Space.{Places}
use Rattle.text_table.specs.Texts.{is_saved, text_numbered, table_with_text, marked, Text as SharedText}
use Rattle.kernel_tables.specs.Shown.{placed, entry_in, changed_named}
use Rattle.vm_facts.specs.Lists.{without}
use Rattle.page_model.specs.Placement.{Transfer, Source, FromSwap, FromFile}
use Rattle.kernel_tables.specs.View.{Lists, Flown}

-- where a page is whose free frame is taken
abbrev pub left_text : Bool → ℕ → Place
left_text true v = places.Swap
left_text false v = places.Image v

-- where a page is whose free frame is taken: on swap, or, text that isn't saved, in its file
abbrev pub left_place : List SharedText → Page → Place
left_place texts (Data sid v) = places.Swap
left_place texts (Stack sid v) = places.Swap
left_place texts (Text image v) = left_text (is_saved (text_numbered texts image) v) v

-- the page that a frame held has lost it
abbrev pub evicted : List SharedText → Option Page → List Places → List Places
evicted texts None spaces = spaces
evicted texts (Some q) spaces = map (placed q (left_place texts q)) spaces

-- the first free frame is taken from its page
abbrev pub taken_frame : Lists → ℕ → Option Page → List ℕ → Lists
taken_frame t f page rest = record t { slots = slice_set t.slots f tokens.Away; free = rest; spaces = evicted t.texts page t.spaces }

-- a page is in a frame, and usable
abbrev pub seated_in : Lists → Frame → Page → Bool → Lists
seated_in t token q dirty =
    record t { slots = slice_set t.slots token.number (tokens.Resident token q dirty); spaces = map (placed q (places.Frame token.number true dirty)) t.spaces }

-- the pages of text that frames hold are of images that there may be
abbrev pub AreTextsHere : List Token → Type 0
AreTextsHere slots = (frame image v : ℕ) → slot_page (slot_at slots frame) ≡ Some (Text image v) → (1 ≤ image) × (image ≤ 16) × (v < 2048)

-- a page is in flight into a frame
abbrev pub coming : Lists → Frame → Page → List Transfer → Lists
coming t token q transfers = record t {
  spaces = map (placed q (places.Frame token.number false false)) t.spaces;
  transfers = transfers;
  flown = t.flown ++ record { page = q; token = token } ∷ [];
}

-- a frame that holds the page is off the free list
abbrev pub revived : Token → Page → Bool → Token
revived (tokens.Free token page) q dirty = tokens.Resident token q dirty
revived (tokens.Resident token page mark) q dirty = tokens.Resident token page mark
revived tokens.Away q dirty = tokens.Away

-- a page that a frame still holds is usable again
abbrev pub reclaimed : Lists → Page → ℕ → Token → Bool → Lists
reclaimed t q f s changed = record t { slots = slice_set t.slots f s; free = without f t.free; spaces = map (placed q (places.Frame f true changed)) t.spaces }

-- a page lands: its token is in the map, and leaves those in flight, of which it is the first
abbrev pub landed : Lists → Page → ℕ → Token → Place → List ℕ → List SharedText → List Transfer → List Flown → Lists
landed t q f x place free texts transfers flown =
    record t { slots = slice_set t.slots f x; free = free; spaces = map (placed q place) t.spaces; texts = texts; transfers = transfers; flown = flown }

-- text that was written to swap is saved
abbrev pub saved_texts : List SharedText → Page → List SharedText
saved_texts texts (Data sid v) = texts
saved_texts texts (Stack sid v) = texts
saved_texts texts (Text image v) = table_with_text texts image (marked (text_numbered texts image) v true)

-- a demanded page of data or stack that came from a file is dirty, and text that isn't saved
abbrev pub arrives_dirty : List SharedText → Page → Bool → Bool
arrives_dirty texts (Data sid v) from_file = from_file
arrives_dirty texts (Stack sid v) from_file = from_file
arrives_dirty texts (Text image v) from_file = not (is_saved (text_numbered texts image) v)

-- where a page is read from: its image's file, or else swap
abbrev pub source_by : Bool → Source
source_by true = FromFile
source_by false = FromSwap

-- whether a page is dirty: data and stack by the entry, and text where it isn't saved
abbrev pub dirty_shown : List Places → List SharedText → Page → Bool
dirty_shown spaces texts (Data sid v) = changed_named (entry_in spaces (Data sid v))
dirty_shown spaces texts (Stack sid v) = changed_named (entry_in spaces (Stack sid v))
dirty_shown spaces texts (Text image v) = not (is_saved (text_numbered texts image) v)
