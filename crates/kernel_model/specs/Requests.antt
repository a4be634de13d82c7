-- What a unit asks of the swap device and of the files of the images.
use Rattle.std.specs.Prelude.{ℕ, zero, suc, ◌+◌, ◌-◌, ◌*◌, min, Bool, true, false, List, [], ◌∷◌, ◌++◌, map, slice_get, Option, Some, None}
use Rattle.vm_facts.specs.FileRequests.{FileRequest, FileRead}
use Rattle.vm_facts.specs.SwapImages.{StoreRequest, SwapRead, SwapWrite, OfFiles, SwapImage, with_requests}
use Rattle.vm_facts.specs.declared.page.Page.{Page}
use Rattle.vm_facts.specs.declared.page.Page.TheVariants.{Data, Stack, Text}
use Rattle.vm_facts.specs.declared.entry.Entry.{Entry}
use Rattle.vm_facts.specs.declared.entry.Entry.TheVariants as entries
use Rattle.page_model.specs.Image.{Image}
use Rattle.page_model.specs.AoutImageImage.{offset_of, given_of}
use Rattle.page_model.specs.Flat.{Inputs}
use Rattle.page_model.specs.Owner.TheVariants as owners
use Rattle.page_model.specs.Holdings.{Holdings, block_in}
use Rattle.page_model.specs.Ownership.{block_of}
use Rattle.page_model.specs.Placement.{Placement, Transfer, Part, Source, FromSwap, FromFile, Errand, Writes, Reads, image_of}
use Rattle.kernel_model.specs.Kernel.{Kernel, image_after}
use Rattle.page_model.specs.Place.{facts_of}
use Rattle.kernel_model.specs.SwapRequests.{asked_at, pages_asked}

-- The files of the images.

-- an image's file: the number by which it is read, and what its header says
pub record ImageFile : Type 0 where
  pub file : ℕ
  pub facts : Image

-- the files with these numbers and headers, one by one
abbrev pub numbered_files : List ℕ → List Image → List ImageFile
numbered_files [] headers = []
numbered_files (number ∷ numbers) [] = []
numbered_files (number ∷ numbers) (header ∷ headers) = record { file = number; facts = header } ∷ numbered_files numbers headers

-- those of the images of a run
abbrev pub image_files : Inputs → List ImageFile
image_files A = numbered_files A.file_numbers (facts_of A.images)

-- the one of an image, counted from 1; none where there is none
abbrev pub file_at : List ImageFile → ℕ → Option ImageFile
file_at files zero = None
file_at files (suc place) = slice_get files place

-- the read of those bytes of an image's file that fill a page of its text, or of its data; none where there is no such image
abbrev pub fill_read : Option ImageFile → Bool → ℕ → List FileRequest
fill_read None text v = []
fill_read (Some f) text v =
    FileRead f.file (offset_of text f.facts + min (1024 * v) (given_of text f.facts)) (min 1024 (given_of text f.facts - 1024 * v)) ∷ []

-- the read that fills a page, where a space of this number runs such an image; no file has a stack page
abbrev pub fill_asked : List ImageFile → (ℕ → ℕ) → Page → List FileRequest
fill_asked files image_of (Data sid v) = fill_read (file_at files (image_of sid)) false v
fill_asked files image_of (Stack sid v) = []
fill_asked files image_of (Text image v) = fill_read (file_at files image) true v

-- those that fill these pages, in their order
abbrev pub fills_asked : List ImageFile → (ℕ → ℕ) → List Part → List FileRequest
fills_asked files image_of [] = []
fills_asked files image_of (x ∷ xs) = fill_asked files image_of x.page ++ fills_asked files image_of xs

-- Transfers.

-- what the read of a page asks, by where it comes from
abbrev pub read_asks : List ImageFile → (ℕ → ℕ) → Holdings → Source → Part → List StoreRequest
read_asks files image_of hs FromSwap x = asked_at SwapRead (block_of hs x.page)
read_asks files image_of hs FromFile x = map OfFiles (fill_asked files image_of x.page)

-- what a transfer of these pages asks, by what it is for
abbrev pub errand_asks : List ImageFile → (ℕ → ℕ) → Holdings → Errand → List Part → List StoreRequest
errand_asks files image_of hs Writes xs = pages_asked hs SwapWrite xs
errand_asks files image_of hs (Reads FromSwap demanded) xs = pages_asked hs SwapRead xs
errand_asks files image_of hs (Reads FromFile demanded) xs = map OfFiles (fills_asked files image_of xs)

-- what the oldest of these transfers does; nothing where there is none
abbrev pub first_asks : List ImageFile → (ℕ → ℕ) → Holdings → List Transfer → List StoreRequest
first_asks files image_of hs [] = []
first_asks files image_of hs (t ∷ ts) = errand_asks files image_of hs t.errand t.parts

-- Units.

-- What a unit asks: the end of the oldest transfer its pages, of swap or of their image's file; a process that goes out or comes in its u
-- page; and any other unit nothing.
abbrev pub unit_asks : List ImageFile → Placement → Holdings → Entry → List StoreRequest
unit_asks files p hs entries.Done = first_asks files (image_of p) hs p.transfers
unit_asks files p hs (entries.SwapOut pid) = asked_at SwapWrite (block_in hs (owners.U pid) 0)
unit_asks files p hs (entries.SwapIn pid) = asked_at SwapRead (block_in hs (owners.U pid) 0)
unit_asks files p hs e = []

-- the swap device as it is told, after the oldest of the machine's transfers completes
abbrev pub image_done : List ImageFile → Kernel → SwapImage → SwapImage
image_done files k image =
    with_requests (first_asks files (image_of k.place) k.holdings k.place.transfers) (record image { bytes = image_after k image.bytes })
