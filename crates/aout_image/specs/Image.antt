-- What a.out(5) makes of a file's bytes: an image with its facts and the two segments that a new space
-- begins with, or no image for the first reason that holds. No sum wraps.
use Rattle.std.specs.Prelude.{◌≡◌, ◌+◌, ◌-◌, ◌*◌, ◌/◌, ◌%◌, ◌^◌, ◌<◌, ◌≤◌, ◌==◌, ◌&&◌, ◌||◌, ℕ, Bool, true, false, not, if◌then◌else◌, nat_lt, nat_le, List, [], ◌∷◌, ◌++◌, length, take, drop, replicate, slice_index, flat_map, Option, Some, None, Result, Ok, Err, ⊤, IsTrue}
use Rattle.aout_image.specs.declared.Kind.{Kind}
use Rattle.aout_image.specs.declared.Kind.TheVariants.{Impure, Shared, Paged}
use Rattle.aout_image.specs.declared.Image.{Image}
use Rattle.aout_image.specs.declared.Judged.{Judged}
use Rattle.aout_image.specs.declared.Judged.TheVariants.{Is, NotImage}

-- The header: eight words, of which the magic, the sizes of text, data and bss, and the entry count.

-- the four bytes at a place as one number, the lowest first
abbrev pub word_at : List ℕ → ℕ → ℕ
word_at bytes at =
    slice_index bytes at + 2 ^ 8 * slice_index bytes (at + 1) + 2 ^ 16 * slice_index bytes (at + 2)
    + 2 ^ 24 * slice_index bytes (at + 3)

-- the magic numbers 0407, 0410 and 0413, in octal
abbrev pub magic_of : Kind → ℕ
magic_of Impure = 0x107
magic_of Shared = 0x108
magic_of Paged = 0x10b

-- the kind that a magic number names
abbrev pub kind_of : ℕ → Option Kind
kind_of magic =
    if magic == 0x107 then Some Impure
    else (if magic == 0x108 then Some Shared
    else (if magic == 0x10b then Some Paged else None))

-- what the header says of an image of a kind
unfoldable pub facts_of : List ℕ → Kind → Image
facts_of head kind = record {
  kind = kind;
  text_len = word_at head 4;
  data_len = word_at head 8;
  bss_len = word_at head 12;
  entry = word_at head 20;
}

-- The two segments.

-- the kind is 0413, whose text begins at byte 1,024 of the file
abbrev pub is_paged : Kind → Bool
is_paged Impure = false
is_paged Shared = false
is_paged Paged = true

-- an impure image has no text segment: its text is the front of its data segment
abbrev pub has_text_segment : Kind → Bool
has_text_segment Impure = false
has_text_segment Shared = true
has_text_segment Paged = true

-- the place in the file of the first byte of text
abbrev pub text_offset : Image → ℕ
text_offset image = if is_paged image.kind then 1024 else 32

-- the bytes that the file gives to the text segment
abbrev pub text_given : Image → ℕ
text_given image = if has_text_segment image.kind then image.text_len else 0

-- the bytes that the file gives to the data segment, which follow those of the text segment
abbrev pub data_given : Image → ℕ
data_given image = if has_text_segment image.kind then image.data_len else image.text_len + image.data_len

-- the pages of 1,024 bytes that hold so many bytes
abbrev pub pages_for : ℕ → ℕ
pages_for bytes = (bytes + 1023) / 1024

-- the pages of the text segment
abbrev pub text_pages_of : Image → ℕ
text_pages_of image = pages_for (text_given image)

-- the pages of the data segment, with the zeros of the bss
abbrev pub image_data_pages : Image → ℕ
image_data_pages image = pages_for (data_given image + image.bss_len)

-- the address of the data segment: the first page after the text segment
abbrev pub data_start_of : Image → ℕ
data_start_of image = 1024 * text_pages_of image

-- the address after the last byte that the file gives
abbrev pub end_of : Image → ℕ
end_of image = data_start_of image + data_given image

-- the bytes that the file must have
abbrev pub file_length_of : Image → ℕ
file_length_of image = text_offset image + image.text_len + image.data_len

-- The reasons to refuse a file, in the order in which they are judged.

-- reason 3: a paged image whose text or data is no whole number of pages
abbrev pub is_ragged : Image → Bool
is_ragged image = is_paged image.kind && not ((image.text_len % 1024 == 0) && (image.data_len % 1024 == 0))

-- reason 4: more pages than a segment may have
abbrev pub is_too_large : Image → Bool
is_too_large image = nat_lt 2048 (text_pages_of image) || nat_lt 4096 (image_data_pages image)

-- reason 5: a file that ends before its text and data do
abbrev pub is_cut_short : Image → ℕ → Bool
is_cut_short image len = nat_lt len (file_length_of image)

-- reason 6: the first instruction, after the entry mask, lies after the bytes that the file gives
abbrev pub starts_outside : Image → Bool
starts_outside image = nat_le (end_of image) (image.entry + 2)

-- the judgement of an image of a known kind
unfoldable pub judged_facts : Image → ℕ → Judged
judged_facts image len =
    if is_ragged image then NotImage 3
    else (if is_too_large image then NotImage 4
    else (if is_cut_short image len then NotImage 5
    else (if starts_outside image then NotImage 6 else Is image)))

-- the judgement by the kind that the magic number names: reason 2 where it names none
abbrev pub judged_kind : Option Kind → List ℕ → ℕ → Judged
judged_kind None head len = NotImage 2
judged_kind (Some kind) head len = judged_facts (facts_of head kind) len

-- the judgement of a file of a length by its front, of which at most 32 bytes count
unfoldable pub judgement : List ℕ → ℕ → Judged
judgement head len = if nat_lt len 32 then NotImage 1 else judged_kind (kind_of (word_at head 0)) head len

-- What a file holds.

-- bytes and zeros after them, so many pages in all
abbrev pub in_pages : ℕ → List ℕ → List ℕ
in_pages pages bytes = bytes ++ replicate (1024 * pages - length bytes) 0

-- an image as a new space has it
pub record Loaded : Type 0 where
  pub facts : Image
  pub text : List ℕ
  pub «data» : List ℕ

-- the image with these facts whose file has these bytes
unfoldable pub loaded : Image → List ℕ → Loaded
loaded image bytes = record {
  facts = image;
  text = in_pages (text_pages_of image) (take (text_given image) (drop (text_offset image) bytes));
  «data» = in_pages (image_data_pages image) (take (data_given image) (drop (text_offset image + text_given image) bytes));
}

-- the image with its two segments, where the file is judged to be one; else the reason
abbrev pub loaded_if : Judged → List ℕ → Result Loaded ℕ
loaded_if (Is image) bytes = Ok (loaded image bytes)
loaded_if (NotImage reason) bytes = Err reason

-- the image that a file of these bytes is, or the first reason why it is none
unfoldable pub judged_image : List ℕ → Result Loaded ℕ
judged_image bytes = loaded_if (judgement bytes (length bytes)) bytes

-- the same without the segments' bytes
abbrev pub judged_of : Result Loaded ℕ → Judged
judged_of (Ok image) = Is image.facts
judged_of (Err reason) = NotImage reason

-- Images for which no reason but a file that ends too early is left.

-- facts for which none of the reasons 3, 4 and 6 holds
pub record IsSound (image : Image) : Type 0 where
  pub whole_text : IsTrue (is_paged image.kind) → image.text_len % 1024 ≡ 0
  pub whole_data : IsTrue (is_paged image.kind) → image.data_len % 1024 ≡ 0
  pub text_fits : text_pages_of image ≤ 2048
  pub data_fits : image_data_pages image ≤ 4096
  pub starts_inside : image.entry + 2 < end_of image

-- a fact of the image, where there is one
abbrev pub IfImage : Judged → (Image → Type 0) → Type 0
IfImage (Is image) P = P image
IfImage (NotImage reason) P = ⊤

-- Pages.

-- the bytes of an image's text, or else of its data
abbrev pub segment_of : Bool → Loaded → List ℕ
segment_of true image = image.text
segment_of false image = image.data

-- how many pages an image's text has, or else its data
abbrev pub pages_of : Bool → Image → ℕ
pages_of true image = text_pages_of image
pages_of false image = image_data_pages image

-- the bytes that the file gives to a segment, and the place of their first one
abbrev pub given_of : Bool → Image → ℕ
given_of true image = text_given image
given_of false image = data_given image

-- the place in the file of the first byte that it gives to the text segment, or else to the data segment
abbrev pub offset_of : Bool → Image → ℕ
offset_of true image = text_offset image
offset_of false image = text_offset image + text_given image

-- page v of a segment
abbrev pub page_at : ℕ → List ℕ → List ℕ
page_at v segment = take 1024 (drop (1024 * v) segment)

-- a page that begins with the count bytes of the file at the offset; the rest is zeros
abbrev pub page_from : List ℕ → ℕ → ℕ → List ℕ
page_from file offset count = take count (drop offset file) ++ replicate (1024 - count) 0

-- every image with these facts has so many pages in the segment
abbrev pub HasPages : Image → Bool → ℕ → Type 0
HasPages facts text pages =
    (bytes : List ℕ) (image : Loaded) → judged_image bytes ≡ Ok image → image.facts ≡ facts
    → length (segment_of text image) ≡ 1024 * pages

-- in every image with these facts, page v of the segment is the count bytes of its file at the offset
-- and zeros
abbrev pub FillsPage : Image → Bool → ℕ → ℕ → ℕ → Type 0
FillsPage facts text v offset count =
    (bytes : List ℕ) (image : Loaded) → judged_image bytes ≡ Ok image → image.facts ≡ facts
    → page_at v (segment_of text image) ≡ page_from bytes offset count

-- the file of an image with these facts needs no more than so many bytes at its front
abbrev pub NeedsNoMore : Image → ℕ → Type 0
NeedsNoMore facts n =
    (bytes : List ℕ) (image : Loaded) → judged_image bytes ≡ Ok image → image.facts ≡ facts
    → judged_image (take n bytes) ≡ Ok image

-- The header as it is written.

-- a number as four bytes, the lowest first
abbrev pub word_bytes : ℕ → List ℕ
word_bytes n = n % 2 ^ 8 ∷ n / 2 ^ 8 % 2 ^ 8 ∷ n / 2 ^ 16 % 2 ^ 8 ∷ n / 2 ^ 24 % 2 ^ 8 ∷ []

-- the header as eight words, with no symbols and no relocation
abbrev pub words_of : Image → List ℕ
words_of image =
    magic_of image.kind ∷ image.text_len ∷ image.data_len ∷ image.bss_len ∷ 0 ∷ image.entry ∷ 0 ∷ 0 ∷ []

-- the 32 bytes of the header that has these facts
unfoldable pub header_of : Image → List ℕ
header_of image = flat_map word_bytes (words_of image)
