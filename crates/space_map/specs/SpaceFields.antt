-- A space's map by its three tables.
use Rattle.std.specs.Prelude.{◌≡◌, ◌≤◌, length}
use Rattle.aout_image.specs.Image.{text_pages_of}
use Rattle.space_map.specs.Space.{Places}
use Rattle.space_map.specs.declared.space.SpaceMap.TheInside.{Inside}

-- the map as its callers see it
abbrev pub map_of : Inside → Places
map_of a = record { sid = a.sid; image = a.image; facts = a.facts; text = a.text; «data» = a.data; stack = a.stack }

-- the text has as many pages as its image, and no segment has more than it may
pub record IsSpace (a : Inside) : Type 0 where
  pub text_whole : length a.text ≡ text_pages_of a.facts
  pub text_fits : length a.text ≤ 2048
  pub data_fits : length a.data ≤ 4096
  pub stack_fits : length a.stack ≤ 512
