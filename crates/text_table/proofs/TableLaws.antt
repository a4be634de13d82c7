-- The table as the texts of its entries.
use Rattle.std.proofs.Common.{◌≡◌, ℕ, ◌-◌, ◌<◌, false, List, [], map, length, get_or, set, sym, refl, ap, ◌∙◌, arith, inl, inr}
use Rattle.std.proofs.lemmas.List.{map-set, length-map, length-replicate, get_or-map, get_or_past}
use Rattle.std.proofs.lemmas.Bool.{cases_lt}
use Rattle.text_table.specs.Texts.{Text, IsTextTable, no_pages, unused_text, text_numbered, table_with_text}
use Rattle.text_table.specs.Entries.{text_in}
use Rattle.text_table.specs.declared.entry.Entry.{Entry}
use Rattle.text_table.proofs.BitmapLaws.{length-pages_of}

-- the text of an image is that of its entry
pub text_of-entries : (entries : List Entry) (texts : List Text) (image at : ℕ) (d : Entry)
    → map text_in entries ≡ texts → at ≡ image - 1 → at < length entries
    → text_in (get_or entries at d) ≡ text_numbered texts image
text_of-entries entries texts image at d view place within =
    sym (get_or-map text_in entries at d unused_text within) ∙
    ap (λ (ts : List Text). get_or ts at unused_text) view ∙
    ap (λ (k : ℕ). get_or texts k unused_text) place

-- to change one entry is to change one text
pub with_text-entries : (entries : List Entry) (texts : List Text) (image at : ℕ) (d entry : Entry) (change : Text → Text)
    → map text_in entries ≡ texts → at ≡ image - 1 → at < length entries
    → text_in entry ≡ change (text_in (get_or entries at d))
    → map text_in (set entries at entry) ≡ table_with_text texts image (change (text_numbered texts image))
with_text-entries entries texts image at d entry change view place within changed =
    map-set text_in entries at entry ∙
    ap (λ (ts : List Text). set ts at (text_in entry)) view ∙
    ap (λ (k : ℕ). set texts k (text_in entry)) place ∙
    ap (set texts (image - 1)) (changed ∙ ap change (text_of-entries entries texts image at d view place within))

whole : (entries : List Entry) (image : ℕ) → length (text_numbered (map text_in entries) image).saved ≡ 2048
unfolding no_pages
whole entries image = elim (cases_lt (image - 1) (length entries)) [
  | inl within ↦
      ap (λ (text : Text). length text.saved) (sym (text_of-entries entries (map text_in entries) image (image - 1) no_entry refl refl within)) ∙
      length-pages_of (get_or entries (image - 1) no_entry).saved.words
  | inr past ↦
      ap (λ (text : Text). length text.saved) (get_or_past (map text_in entries) (image - 1) unused_text (omega (arith, length-map entries text_in))) ∙
      length-replicate 2048 false
]
  where
    no_entry : Entry
    no_entry = record { sharers = 0; saved = record { words = [] } }

-- the texts of 16 entries are a table
pub table_of-entries : (entries : List Entry) → length entries ≡ 16 → IsTextTable (map text_in entries)
table_of-entries entries images = record {
  images = length-map entries text_in ∙ images;
  pages = whole entries;
}
