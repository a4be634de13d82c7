-- A segment's packed table: the places that its words have, and when each word is sound.
use Rattle.std.specs.Prelude.{List, map}
use Rattle.std.specs.List.{All}
use Rattle.vax_pte.specs.Words.{place_named}
use Rattle.space_map.specs.Tables.{IsWord}
use Rattle.space_map.specs.declared.page_table.PageTable.TheInside.{Inside}
use Rattle.vax_pte.specs.declared.Place.{Place}

-- the places of a segment's pages, as its words have them
abbrev pub places_of : Inside → List Place
places_of a = map place_named a.words.items

-- each word is that of its place, with the segment's protection
pub record IsTable (a : Inside) : Type 0 where
  pub words : All (IsWord a.user_write) a.words.items
