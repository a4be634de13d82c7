-- What the core map and the entries of a space show of a placement.
use Rattle.std.specs.Prelude.{◌≡◌, List, Option, Some, None}
use Rattle.vm_facts.specs.declared.page.Page.{Page}
use Rattle.vm_facts.specs.declared.page.Page.TheVariants.{Data, Stack, Text}
use Rattle.space_map.specs.Place.{Place}
use Rattle.core_map.specs.declared.slot.Slot.{Slot}
use Rattle.core_map.specs.Frames.{Frames}
use Rattle.space_map.specs.Space.{Places, place_in}
use Rattle.page_model.specs.Placement.{Placement, IsThere, state_of, is_dirty}
use Rattle.table_view.specs.Shown.{state_shown, ShowsMark, IsSeatedIfValid}

-- the page is named by the space's number, or as text by its image's
abbrev pub IsNamedBy : Places → Page → Type 0
IsNamedBy s (Data sid v) = sid ≡ s.sid
IsNamedBy s (Stack sid v) = sid ≡ s.sid
IsNamedBy s (Text image v) = image ≡ s.image

-- a page with an entry is there, in the state and with the mark that the tables show; a page without one isn't there
abbrev pub ShowsPage : Placement → List Slot → Page → Option Place → Type 0
ShowsPage p slots q None = IsThere p q → ⊥
ShowsPage p slots q (Some place) = IsThere p q × (state_of p q ≡ state_shown slots place) × ShowsMark slots place (is_dirty p q)

-- The core map and the entries of a space show a placement: the free list, and each page of the space, its image's text
-- with it.
pub record ShowsSpace (p : Placement) (core : Frames) (s : Places) : Type 0 where
  pub free : p.free ≡ core.free
  pub pages : (q : Page) → IsNamedBy s q → ShowsPage p core.slots q (place_in s q)

-- each valid page of the space is in a resident frame
abbrev pub ValidAreSeated : Frames → Places → Type 0
ValidAreSeated core s = (q : Page) (place : Place) → place_in s q ≡ Some place → IsSeatedIfValid core.slots place
