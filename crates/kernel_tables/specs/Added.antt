-- A space that comes, of an image of the run: the pages of its text are where they are known to be, and it stands last.
use Rattle.std.specs.Prelude.{◌≡◌, ℕ, ◌+◌, ◌<◌, List, [], ◌∷◌, ◌++◌, map, Some, slice_get}
use Rattle.std.specs.List.{range_with_len}
use Rattle.vm_facts.specs.declared.page.Page.TheVariants.{Text}
use Rattle.vax_pte.specs.declared.Place.{Place}
use Rattle.vax_pte.specs.declared.Place.TheVariants as places
use Rattle.aout_image.specs.Image.{text_pages_of, image_data_pages}
use Rattle.space_map.specs.Space.{Places}
use Rattle.text_table.specs.Texts.{IsTextTable, text_numbered, table_with_text, entered, Text as SharedText}
use Rattle.flat_state.specs.Numbers.{AllBelow}
use Rattle.kernel_tables.specs.declared.fill.DueFill.{DueFill}
use Rattle.kernel_tables.specs.declared.tables.Tables.{Tables}
use Rattle.kernel_tables.specs.Rising.{sids_of}
use Rattle.kernel_tables.specs.Alike.{facts_in, HasFewPages}
use Rattle.kernel_tables.specs.View.{Lists, text_place}
use Rattle.kernel_tables.specs.Machine.{lists_of}

-- where the pages of an image's text are, as the spaces know that share it, or else as a frame tells
abbrev pub text_places : Lists → ℕ → ℕ → List Place
text_places t image n = map (λ v. text_place t.spaces t.slots (Text image v) v) (range_with_len 0 n)

-- a space with the places of its text
abbrev pub with_text_places : Lists → Places → Places
with_text_places t s = record s { text = text_places t s.image (text_pages_of s.facts) }

-- one more shares the text of an image
abbrev pub entered_texts : List SharedText → ℕ → List SharedText
entered_texts texts image = table_with_text texts image (entered (text_numbered texts image))

-- it stands last, and shares the text of its image; and these fills are due
abbrev pub with_space : Lists → Places → List DueFill → Lists
with_space t s fills = record t { spaces = t.spaces ++ with_text_places t s ∷ []; texts = entered_texts t.texts s.image; fills = fills }

-- a page of data that waits to be filled, with zeros or from the image's file
abbrev pub IsFresh : ℕ → ℕ → Place → Type 0
IsFresh pages v places.Zero = Unit {0}
IsFresh pages v (places.Image w) = (w ≡ v) × (v < pages)
IsFresh pages v places.Swap = ⊥
IsFresh pages v (places.Frame f valid changed) = ⊥

-- What is asked of a space that comes: a number above all, an image of the run, and pages that wait to be filled.
pub record IsNewSpace (t : Lists) (s : Places) : Type 0 where
  pub above : AllBelow s.sid (sids_of t.spaces)
  pub facts_are : facts_in 1 s.image t.facts ≡ Some s.facts
  pub few : HasFewPages s
  pub fresh_data : (v : ℕ) (x : Place) → slice_get s.data v ≡ Some x → IsFresh (image_data_pages s.facts) v x
  pub fresh_stack : (v : ℕ) (x : Place) → slice_get s.stack v ≡ Some x → x ≡ places.Zero

-- it is there, with the places of its text, and the next space has the next number
pub record AddedSpace (t u : Tables) (s : Places) : Type 0 where
  pub spaces : u.spaces ≡ t.spaces ++ with_text_places (lists_of t) s ∷ []
  pub table : IsTextTable t.texts
  pub texts : u.texts ≡ entered_texts t.texts s.image
  pub number : u.next_sid ≡ t.next_sid + 1
  pub rest : u ≡ record t { spaces = u.spaces; texts = u.texts; next_sid = u.next_sid }
