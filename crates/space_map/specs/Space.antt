-- What a space's map shows: for each segment the places of its pages, in order.
use Rattle.std.specs.Prelude.{◌≡◌, ℕ, ◌<◌, ◌≤◌, ◌-◌, ◌*◌, ◌==◌, nat_lt, Bool, true, false, List, [], ◌++◌, length, map, take, replicate, slice_set, slice_get, Option, Some, None, IfSome, unwrap_or, if◌then◌else◌}
use Rattle.std.specs.List.{range_with_len}
use Rattle.aout_image.specs.Image.{given_of}
use Rattle.aout_image.specs.declared.Image.{Image as Facts}
use Rattle.vax_pte.specs.Words.{usable_frame}
use Rattle.vax_pte.specs.declared.Place.{Place}
use Rattle.vax_pte.specs.declared.Place.TheVariants.{Zero, Image}
use Rattle.vm_facts.specs.declared.page.Page.{Page}
use Rattle.vm_facts.specs.declared.page.Page.TheVariants.{Data, Stack, Text}

-- a space: its number, its image with what the header says, and the places of its pages
pub record Places : Type 0 where
  pub sid : ℕ
  pub image : ℕ
  pub facts : Facts
  pub text : List Place
  pub «data» : List Place
  pub stack : List Place

-- a page of a new segment is filled from the image's file where that gives a byte of it, and else with zeros
abbrev pub first_place : Facts → Bool → ℕ → Place
first_place facts text v = if nat_lt (1024 * v) (given_of text facts) then Image v else Zero

-- the pages of a new segment, of the text where `text` is true, or else of the data
abbrev pub first_places : Facts → Bool → ℕ → List Place
first_places facts text pages = map (first_place facts text) (range_with_len 0 pages)

-- a segment cut, or lengthened by pages of zeros, to so many pages
abbrev pub resized : List Place → ℕ → List Place
resized places pages = take pages places ++ replicate (pages - length places) Zero

-- the place of a page, where the page is of the space
abbrev pub place_in : Places → Page → Option Place
place_in s (Data sid v) = if sid == s.sid then slice_get s.data v else None
place_in s (Stack sid v) = if sid == s.sid then slice_get s.stack v else None
place_in s (Text image v) = if image == s.image then slice_get s.text v else None

-- the frame that an entry names, where its page is valid
abbrev pub entry_frame : Option Place → Option ℕ
entry_frame (Some place) = usable_frame place
entry_frame None = None

-- the places of the segment that a page is of; none where the page is of no segment of the space
abbrev pub segment_in : Places → Page → List Place
segment_in s (Data sid v) = if sid == s.sid then s.data else []
segment_in s (Stack sid v) = if sid == s.sid then s.stack else []
segment_in s (Text image v) = if image == s.image then s.text else []

-- there is an entry, whose place is of this kind
abbrev pub is_of_kind : (Place → Bool) → Option Place → Bool
is_of_kind kind (Some place) = kind place
is_of_kind kind None = false

-- of the pages with these entries, from a number on up to another, the first whose place is of this kind; none where none is
pub record IsNextOfKind (kind : Place → Bool) (entries : ℕ → Option Place) (from to : ℕ) (next : Option ℕ) : Type 0 where
  pub none_before : (v : ℕ) → from ≤ v → v < unwrap_or next to → is_of_kind kind (entries v) ≡ false
  pub found : IfSome next (λ v. (from ≤ v) × (v < to) × (is_of_kind kind (entries v) ≡ true))

-- the map after a page of the space took this place
abbrev pub with_place : Places → Page → Place → Places
with_place s (Data sid v) place = record s { «data» = slice_set s.data v place }
with_place s (Stack sid v) place = record s { stack = slice_set s.stack v place }
with_place s (Text image v) place = record s { text = slice_set s.text v place }
