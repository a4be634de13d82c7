-- What the entry of a page and the token of its frame say of a page.
use Rattle.std.specs.Prelude.{ℕ, Bool, true, false, List, [], ◌∷◌, map, Option, Some, None}
use Rattle.vm_facts.specs.declared.page.Page.{Page}
use Rattle.vax_pte.specs.declared.Place.{Place}
use Rattle.vax_pte.specs.declared.Place.TheVariants as places
use Rattle.core_map.specs.declared.slot.Slot.{Slot as Token}
use Rattle.space_map.specs.Space.{Places, place_in, with_place}
use Rattle.page_model.specs.Pages.{Slot, Filling, Zeros, OfImage, SpacePages}
use Rattle.table_view.specs.Shown.{state_shown}

-- whether an entry says that its page was changed
abbrev pub changed_shown : Place → Bool
changed_shown places.Zero = false
changed_shown (places.Image v) = false
changed_shown places.Swap = false
changed_shown (places.Frame f valid changed) = changed

-- what fills a page by its entry: its image where the entry says so, else zeros
abbrev pub filling_shown : Place → Filling
filling_shown places.Zero = Zeros
filling_shown (places.Image v) = OfImage
filling_shown places.Swap = Zeros
filling_shown (places.Frame f valid changed) = Zeros

-- what is said of a page of data or stack, by its entry
abbrev pub slot_shown : List Token → Place → Slot
slot_shown slots place = record { state = state_shown slots place; mark = changed_shown place; filling = filling_shown place }

-- what is said of a page of text, by its entry and by whether it is saved
abbrev pub text_shown : List Token → Bool → Place → Slot
text_shown slots saved place = record { state = state_shown slots place; mark = saved; filling = Zeros }

-- the pages of a space, by its entries and the core map
abbrev pub space_shown : List Token → Places → SpacePages
space_shown slots s = record { sid = s.sid; image = s.image; data_pages = map (slot_shown slots) s.data; stack_pages = map (slot_shown slots) s.stack }

-- the first of two, where it is there, or else the second
abbrev pub or_else : {A : Type 0} → Option A → Option A → Option A
or_else (Some x) o = Some x
or_else None o = o

-- the entry of a page in the first of these spaces that has it
abbrev pub entry_in : List Places → Page → Option Place
entry_in [] q = None
entry_in (s ∷ ss) q = or_else (place_in s q) (entry_in ss q)

-- a page takes its place in a space that has it
abbrev pub placed_by : Option Place → Page → Place → Places → Places
placed_by None q place s = s
placed_by (Some was) q place s = with_place s q place

-- a space with this place for a page that it has; another space as it is
abbrev pub placed : Page → Place → Places → Places
placed q place s = placed_by (place_in s q) q place s

-- an entry names a frame
abbrev pub is_frame : Option Place → Bool
is_frame (Some (places.Frame f valid changed)) = true
is_frame _ = false

-- the frame that an entry names; 0 where it names none
abbrev pub frame_named : Option Place → ℕ
frame_named (Some (places.Frame f valid changed)) = f
frame_named _ = 0

-- an entry names a frame, and says that its page was changed
abbrev pub changed_named : Option Place → Bool
changed_named (Some (places.Frame f valid changed)) = changed
changed_named _ = false

-- an entry that says that the page is on swap
abbrev pub is_on_swap : Option Place → Bool
is_on_swap (Some places.Swap) = true
is_on_swap _ = false
