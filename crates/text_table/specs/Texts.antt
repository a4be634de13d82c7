-- The text table as its callers see it: of each image, its sharers and its saved pages.
use Rattle.std.specs.Prelude.{◌≡◌, ℕ, ◌+◌, ◌-◌, ◌==◌, Bool, false, List, length, replicate, slice_set, slice_index_or, if◌then◌else◌}

-- what the table has for an image: how many spaces share its text, and for each of the text's pages
-- whether it is saved on swap
pub record Text : Type 0 where
  pub sharers : ℕ
  pub saved : List Bool

-- none of the 2,048 pages that a text may have
unfoldable pub no_pages : List Bool
no_pages = replicate 2048 false

-- a text that nothing shares, with nothing saved
abbrev pub unused_text : Text
unused_text = record { sharers = 0; saved = no_pages }

-- the table of 16 images with nothing in it
unfoldable pub unused_texts : List Text
unused_texts = replicate 16 unused_text

-- the text of an image; images are numbered from 1
abbrev pub text_numbered : List Text → ℕ → Text
text_numbered texts image = slice_index_or texts (image - 1) unused_text

-- the table with another text for one image
abbrev pub table_with_text : List Text → ℕ → Text → List Text
table_with_text texts image text = slice_set texts (image - 1) text

-- page v of the text is saved
abbrev pub is_saved : Text → ℕ → Bool
is_saved text v = slice_index_or text.saved v false

-- one more shares the text
abbrev pub entered : Text → Text
entered text = record text { sharers = text.sharers + 1 }

-- one less shares the text; after the last nothing of it is saved
abbrev pub left : Text → Text
left text = record { sharers = text.sharers - 1; saved = if text.sharers == 1 then no_pages else text.saved }

-- page v of the text is saved, or not
abbrev pub marked : Text → ℕ → Bool → Text
marked text v mark = record text { saved = slice_set text.saved v mark }

-- what holds of every table: there are 16 texts, each with a mark for each of 2,048 pages
pub record IsTextTable (texts : List Text) : Type 0 where
  pub images : length texts ≡ 16
  pub pages : (image : ℕ) → length (text_numbered texts image).saved ≡ 2048
