-- The end of a transfer, through its device.
use Rattle.std.specs.Prelude.{◌≡◌, ◌⊎◌, ◌↔◌, ℕ, ◌<◌, ◌≤◌, Bool, List, [], ◌∷◌, length, Option, Some, None, Result, Ok, Err}
use Rattle.flat_state.specs.Flat.{FlatState, NamedImage}
use Rattle.vm_facts.specs.SwapImages.{SwapImage, with_requests}
use Rattle.vm_facts.specs.declared.stop.Stop.{Stop}
use Rattle.vm_facts.specs.declared.stop.Stop.TheVariants as stops
use Rattle.transfer_ring.specs.FileHolding.{NamedFile}
use Rattle.page_model.specs.Placement.{Transfer, Part, Source, FromSwap, FromFile, Errand, Writes, Reads, image_of}
use Rattle.page_model.specs.Ownership.{block_of}
use Rattle.kernel_model.specs.Kernel.{Kernel, done_step, frame_bytes}
use Rattle.kernel_model.specs.SwapRequests.{write_at}
use Rattle.kernel_model.specs.Requests.{ImageFile, read_asks, image_done}
use Rattle.kernel_model.specs.Sound.{TextFits}
use Rattle.kernel_model.specs.Coupled.{Coupled, AreRead, beside_kernel}
use Rattle.kernel_tables.specs.Sourced.{ImageNamed, files_named}
use Rattle.kernel_tables.specs.Machine.{Standing}
use Rattle.kernel_tables.specs.Conditions.{HasStopped}
use Rattle.kernel_tables.specs.Failing.{LosesFor}
use Rattle.kernel_tables.specs.Files.{AreImages}
use Rattle.transfer_ring.specs.declared.transfer.Inbound.{Inbound}
use Rattle.transfer_ring.specs.declared.transfer.Transfer.{Transfer as Flight}
use Rattle.transfer_ring.specs.declared.transfer.Transfer.TheVariants as flights

-- all tokens of a read have a page's bytes
abbrev pub AreWholePages : List Inbound → Type 0
AreWholePages [] = Unit {0}
AreWholePages (x ∷ xs) = (length x.token.bytes ≡ 1024) × AreWholePages xs

-- the tokens of a transfer that reads have a page's bytes each
abbrev pub IsWholeFlight : Flight → Type 0
IsWholeFlight (flights.Read demanded parts) = AreWholePages parts.items
IsWholeFlight (flights.Write parts) = Unit {0}

-- what the machine reads from beside the swap area: its images by name, and the files, where they are told
pub record Sources : Type 0 where
  pub images : List ImageNamed
  pub files : Option (List NamedFile)

-- where the files and the swap image are told, these are the bytes that stand where the oldest transfer reads
abbrev pub ReadsTold : Sources → Option SwapImage → Kernel → List (List ℕ) → Type 0
ReadsTold from None k read = Unit {0}
ReadsTold from (Some image) k read =
    (images : List NamedImage) (flat : FlatState) → AreImages from.images from.files images
    → AreRead (beside_kernel k images image.bytes flat) k.place.transfers read

-- the oldest transfer is complete; of a read, with the bytes that were read, which are those of the files and the swap image
pub record IsDone (from : Sources) (before : Option SwapImage) (old new : Kernel) : Type 0 where
  pub some : 0 < length old.place.transfers
  pub read : List (List ℕ)
  pub step : new ≡ done_step old read
  pub told : ReadsTold from before old read

-- those of a machine, with these files
abbrev pub sources : Standing → Option (List NamedFile) → Sources
sources m holds = record { images = m.images; files = holds }

-- the machine stands for the flat state, with a swap image that is told
abbrev pub StandsTold : Kernel → List NamedImage → Option SwapImage → FlatState → Type 0
StandsTold k images None flat = ⊥
StandsTold k images (Some image) flat = Coupled k images image.bytes flat

-- with the images that the files have, the machine still stands for the flat states that it stood for; a told image stays told
abbrev pub KeepsThrough : Standing → Standing → Option (List NamedFile) → Option SwapImage → Option SwapImage → Type 0
KeepsThrough old new holds before after =
    (images : List NamedImage) (flat : FlatState) → AreImages old.images holds images → TextFits images old.kernel.place
    → StandsTold old.kernel images before flat → StandsTold new.kernel images after flat

-- the swap image, where it is told, after the oldest transfer: each of its pages was asked for once, in their order, of swap or of the
-- file that has it
abbrev pub ImageAfter : List ImageFile → Kernel → Option SwapImage → Option SwapImage → Type 0
ImageAfter files k None after = after ≡ None
ImageAfter files k (Some image) after = after ≡ Some (image_done files k image)

-- some pages of a write are in their blocks, and one page's blocks have any bytes: its write is the last request
abbrev pub SpoilsAll : Kernel → SwapImage → List Part → SwapImage → Type 0
SpoilsAll k image [] after = ⊥
SpoilsAll k image (x ∷ xs) after =
    ((bytes : List ℕ) × (length bytes ≡ 1024) × (after ≡ write_at image (block_of k.holdings x.page) bytes))
    ⊎ SpoilsAll k (write_at image (block_of k.holdings x.page) (frame_bytes k x.frame)) xs after

-- what a write that failed leaves of the image: the oldest transfer is that write
abbrev pub SpoilsFirst : Kernel → SwapImage → List Transfer → SwapImage → Type 0
SpoilsFirst k image [] after = ⊥
SpoilsFirst k image (t ∷ ts) after = (t.errand ≡ Writes) × SpoilsAll k image t.parts after

-- the swap image, where it is told, after the oldest transfer's write failed
abbrev pub SpoilsAfter : Kernel → Option SwapImage → Option SwapImage → Type 0
SpoilsAfter k None after = after ≡ None
SpoilsAfter k (Some image) after = (spoiled : SwapImage) × (after ≡ Some spoiled) × SpoilsFirst k image k.place.transfers spoiled

-- some pages of a read were asked for, in their order, and no byte changed: the last of them is the one whose read failed
abbrev pub AskedAll : List ImageFile → Kernel → Source → SwapImage → List Part → SwapImage → Type 0
AskedAll files k source image [] after = ⊥
AskedAll files k source image (x ∷ xs) after =
    (after ≡ with_requests (read_asks files (image_of k.place) k.holdings source x) image)
    ⊎ AskedAll files k source (with_requests (read_asks files (image_of k.place) k.holdings source x) image) xs after

-- by what a transfer is for
abbrev pub AskedFor : List ImageFile → Kernel → Errand → SwapImage → List Part → SwapImage → Type 0
AskedFor files k Writes image xs after = ⊥
AskedFor files k (Reads source demanded) image xs after = AskedAll files k source image xs after

-- what a read that failed leaves of the image: the oldest transfer is that read
abbrev pub AskedFirst : List ImageFile → Kernel → SwapImage → List Transfer → SwapImage → Type 0
AskedFirst files k image [] after = ⊥
AskedFirst files k image (t ∷ ts) after = AskedFor files k t.errand image t.parts after

-- the swap image, where it is told, after the oldest transfer's read failed
abbrev pub AskedAfter : List ImageFile → Kernel → Option SwapImage → Option SwapImage → Type 0
AskedAfter files k None after = after ≡ None
AskedAfter files k (Some image) after = (asked : SwapImage) × (after ≡ Some asked) × AskedFirst files k image k.place.transfers asked

-- what the oldest transfer is for
abbrev pub IsReadFrom : Source → Errand → Type 0
IsReadFrom source Writes = ⊥
IsReadFrom source (Reads from demanded) = from ≡ source

-- the oldest transfer is a read from this source
abbrev pub OldestReadsFrom : Source → List Transfer → Type 0
OldestReadsFrom source [] = ⊥
OldestReadsFrom source (t ∷ ts) = IsReadFrom source t.errand

-- the oldest transfer is a write
abbrev pub OldestWrites : List Transfer → Type 0
OldestWrites [] = ⊥
OldestWrites (t ∷ ts) = t.errand ≡ Writes

-- why a call stopped
abbrev pub StopsFor : Result Bool Stop → List Transfer → Type 0
StopsFor (Ok b) ts = Unit {0}
StopsFor (Err stops.NoMemory) ts = 0 < length ts
StopsFor (Err stops.JournalFull) ts = 0 < length ts
StopsFor (Err stops.FileFault) ts = OldestReadsFrom FromFile ts
StopsFor (Err stops.SwapReadFault) ts = OldestReadsFrom FromSwap ts
StopsFor (Err stops.SwapWriteFault) ts = OldestWrites ts

-- The swap image after a call that stopped: it has the requests up to the one that failed, and only a write that failed changes
-- a byte.
abbrev pub SwapAfter : Result Bool Stop → List ImageFile → Kernel → Option SwapImage → Option SwapImage → Type 0
SwapAfter (Err stops.FileFault) files k before after = AskedAfter files k before after
SwapAfter (Err stops.SwapReadFault) files k before after = AskedAfter files k before after
SwapAfter (Err stops.SwapWriteFault) files k before after = SpoilsAfter k before after
SwapAfter _ files k before after = after ≡ before

-- The end of the oldest transfer stops the machine, in which no pieces wait: the journal was full exactly where it was at its
-- bound, a fault comes of a transfer of its own kind, which is lost with its frames, and no more was asked than up to the fault.
pub record StopsEnding (old new : Standing) (before after : Option SwapImage) (stop : Stop) : Type 0 where
  pub stopped : HasStopped old new
  pub whole : old.before ≡ old.kernel.holdings
  pub full : (stop ≡ stops.JournalFull) ↔ ((0 < length old.kernel.place.transfers) × (old.params.journal ≤ length old.kernel.journal))
  pub cause : let r : Result Bool Stop = Err stop in StopsFor r old.kernel.place.transfers
  pub lost : let r : Result Bool Stop = Err stop in LosesFor r old new
  pub image : let r : Result Bool Stop = Err stop in SwapAfter r (files_named old.images) old.kernel before after
