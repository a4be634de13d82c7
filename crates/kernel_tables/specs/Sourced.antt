-- Where the parts of the transfers in flight are read from and written to.
use Rattle.std.specs.Prelude.{◌≡◌, ℕ, zero, suc, ◌+◌, ◌-◌, ◌*◌, ◌<◌, min, Bool, true, false, List, [], ◌∷◌, length, map, slice_get, Option, Some, None}
use Rattle.vm_facts.specs.declared.page.Page.{Page}
use Rattle.vm_facts.specs.declared.page.Page.TheVariants.{Data, Stack, Text}
use Rattle.aout_image.specs.declared.Image.{Image}
use Rattle.aout_image.specs.Image.{IsSound, pages_of, offset_of, given_of}
use Rattle.page_model.specs.Holdings.{Holdings}
use Rattle.transfer_ring.specs.declared.transfer.Inbound.{Inbound}
use Rattle.transfer_ring.specs.declared.transfer.Outbound.{Outbound}
use Rattle.transfer_ring.specs.declared.transfer.Transfer.{Transfer as Flight}
use Rattle.transfer_ring.specs.declared.transfer.Transfer.TheVariants as flights
use Rattle.transfer_ring.specs.declared.transfer.Source.{Source as From}
use Rattle.transfer_ring.specs.declared.transfer.Source.TheVariants as froms
use Rattle.transfer_ring.specs.Sound.{IsBlock}
use Rattle.page_model.specs.Placement.{Source}
use Rattle.page_model.specs.Ownership.{block_of}
use Rattle.kernel_model.specs.Requests.{ImageFile}
use Rattle.kernel_tables.specs.View.{source_of, source_shown}

-- an image: its name, the number of its file, and what its header says
pub record ImageNamed : Type 0 where
  pub name : List ℕ
  pub file : ℕ
  pub facts : Image

-- a name has 1 to 63 bytes
abbrev pub AreNames : List ImageNamed → Type 0
AreNames [] = Unit {0}
AreNames (n ∷ ns) = (0 < length n.name) × (length n.name < 64) × AreNames ns

-- the file of an image
abbrev pub image_file : ImageNamed → ImageFile
image_file n = record { file = n.file; facts = n.facts }

-- those of images, by number
abbrev pub files_named : List ImageNamed → List ImageFile
files_named ns = map image_file ns

-- images are numbered from 1
abbrev pub named_at : List ImageNamed → ℕ → Option ImageNamed
named_at ns zero = None
named_at ns (suc place) = slice_get ns place

-- the bytes of an image's file that fill a page of its text, or of its data
pub record IsRange (n : ImageNamed) (text : Bool) (v id offset count : ℕ) : Type 0 where
  pub file : id ≡ n.file
  pub within : v < pages_of text n.facts
  pub offset_is : offset ≡ offset_of text n.facts + min (1024 * v) (given_of text n.facts)
  pub count_is : count ≡ min 1024 (given_of text n.facts - 1024 * v)

-- the bytes of an image's file that fill a page; none where there is no such image
abbrev pub IsRangeOf : Option ImageNamed → Bool → ℕ → ℕ → ℕ → ℕ → Type 0
IsRangeOf None text v id offset count = ⊥
IsRangeOf (Some n) text v id offset count = IsRange n text v id offset count

-- of a page of data or of text, where a space of this number runs such an image
abbrev pub IsPageRange : List ImageNamed → (ℕ → ℕ) → Page → ℕ → ℕ → ℕ → Type 0
IsPageRange ns image_of (Data sid v) id offset count = IsRangeOf (named_at ns (image_of sid)) false v id offset count
IsPageRange ns image_of (Stack sid v) id offset count = ⊥
IsPageRange ns image_of (Text image v) id offset count = IsRangeOf (named_at ns image) true v id offset count

-- the image that a page is of
abbrev pub image_by : (ℕ → ℕ) → Page → ℕ
image_by image_of (Data sid v) = image_of sid
image_by image_of (Stack sid v) = image_of sid
image_by image_of (Text image v) = image

-- the page is one of a text
abbrev pub is_text : Page → Bool
is_text (Data sid v) = false
is_text (Stack sid v) = false
is_text (Text image v) = true

-- a page that an image's file has
abbrev pub IsImagePage : Option ImageNamed → Bool → ℕ → Type 0
IsImagePage None text v = ⊥
IsImagePage (Some n) text v = IsSound n.facts × (v < pages_of text n.facts)

-- the page is one that its image's file has; a stack page is none
abbrev pub IsFilePage : List ImageNamed → (ℕ → ℕ) → Page → Type 0
IsFilePage ns image_of (Data sid v) = IsImagePage (named_at ns (image_of sid)) false v
IsFilePage ns image_of (Stack sid v) = ⊥
IsFilePage ns image_of (Text image v) = IsImagePage (named_at ns image) true v

-- a page's own two blocks, even and inside the swap area
pub record IsOwnBlock (hs : Holdings) (size : ℕ) (q : Page) (block : ℕ) : Type 0 where
  pub own : block_of hs q ≡ Some block
  pub place : IsBlock size block

-- a page is read from its own blocks, or from its own bytes of its image's file
abbrev pub IsSourced : List ImageNamed → (ℕ → ℕ) → Holdings → ℕ → Page → From → Type 0
IsSourced ns image_of hs size q (froms.Swap block) = IsOwnBlock hs size q block
IsSourced ns image_of hs size q (froms.File id offset count) = IsPageRange ns image_of q id offset count

-- all parts of a read are of one kind
abbrev pub AreSourcedIn : List ImageNamed → (ℕ → ℕ) → Holdings → ℕ → Source → List Inbound → Type 0
AreSourcedIn ns image_of hs size source [] = Unit {0}
AreSourcedIn ns image_of hs size source (x ∷ xs) =
    (source_of x.source ≡ source) × IsSourced ns image_of hs size x.page x.source × AreSourcedIn ns image_of hs size source xs

-- each of these pages is written to its own two blocks
abbrev pub AreOwnBlocks : Holdings → ℕ → List Outbound → Type 0
AreOwnBlocks hs size [] = Unit {0}
AreOwnBlocks hs size (x ∷ xs) = IsOwnBlock hs size x.page x.block × AreOwnBlocks hs size xs

-- a transfer reads each page from where that is, or writes each to its own blocks
abbrev pub IsFlightSourced : List ImageNamed → (ℕ → ℕ) → Holdings → ℕ → Flight → Type 0
IsFlightSourced ns image_of hs size (flights.Read demanded parts) = AreSourcedIn ns image_of hs size (source_shown parts.items) parts.items
IsFlightSourced ns image_of hs size (flights.Write parts) = AreOwnBlocks hs size parts.items

-- each transfer in flight reads its pages from where they are, or writes them to their own blocks
abbrev pub AreSourced : List ImageNamed → (ℕ → ℕ) → Holdings → ℕ → List Flight → Type 0
AreSourced ns image_of hs size [] = Unit {0}
AreSourced ns image_of hs size (t ∷ ts) = IsFlightSourced ns image_of hs size t × AreSourced ns image_of hs size ts
