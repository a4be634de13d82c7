-- A segment's table: each word is that of an entry, with the segment's protection. And what is sought in it.
use Rattle.std.specs.Prelude.{ℕ, Bool}
use Rattle.vax_pte.specs.Words.{PacksTo, place_named, was_filled, is_in_frame}
use Rattle.vax_pte.specs.declared.Place.{Place}
use Rattle.space_map.specs.declared.page_table.Sought.{Sought}
use Rattle.space_map.specs.declared.page_table.Sought.TheVariants.{Filled, InFrame}

-- the word is that of its place, with this protection
unfoldable pub IsWord : Bool → ℕ → Type 0
IsWord user_write word = PacksTo (record { user_write = user_write; place = place_named word }) word

-- whether a page in a place is sought
abbrev pub is_sought : Sought → Place → Bool
is_sought Filled place = was_filled place
is_sought InFrame place = is_in_frame place
