-- Where a run halts: at its next unit, for a cause, and with a swap image.
use Rattle.std.specs.Prelude.{◌≡◌, ◌⊎◌, ℕ, ◌<◌, List, [], ◌∷◌, length}
use Rattle.vm_facts.specs.SwapImages.{SwapImage, with_requests}
use Rattle.vm_facts.specs.declared.entry.Entry.{Entry}
use Rattle.vm_facts.specs.declared.entry.Entry.TheVariants as entries
use Rattle.vm_facts.specs.declared.stop.Stop.{Stop}
use Rattle.vm_facts.specs.declared.stop.Stop.TheVariants as stops
use Rattle.swap_book.specs.declared.Owner.TheVariants as owners
use Rattle.swap_book.specs.Holdings.{block_in}
use Rattle.flat_state.specs.Flat.{Inputs}
use Rattle.flat_state.specs.Journal.{append}
use Rattle.page_model.specs.Placement.{Transfer, Part, Source, FromSwap, FromFile, Errand, Writes, Reads, image_of}
use Rattle.page_model.specs.Ownership.{block_of}
use Rattle.kernel_model.specs.Coupled.{memory_of}
use Rattle.kernel_model.specs.SwapRequests.{read_at, write_at}
use Rattle.kernel_model.specs.Requests.{image_files, read_asks}
use Rattle.machine_state.specs.Done.{OldestReadsFrom, OldestWrites}
use Rattle.run_model.specs.State.{State}

-- Why the next unit isn't made: a file fails only where a read from a file is to end, the swap where a read from it is, or a
-- process is to come in; a write to it fails where a write is to end or a process is to go out; and a journal that is full has no
-- room for an entry that isn't joined to its last one.
abbrev pub HaltsFor : Stop → Entry → State → Type 0
HaltsFor stops.FileFault u s = (u ≡ entries.Done) × OldestReadsFrom FromFile s.place.transfers
HaltsFor stops.SwapReadFault u s = ((u ≡ entries.Done) × OldestReadsFrom FromSwap s.place.transfers) ⊎ ((pid : ℕ) × (u ≡ entries.SwapIn pid))
HaltsFor stops.SwapWriteFault u s = ((u ≡ entries.Done) × OldestWrites s.place.transfers) ⊎ ((pid : ℕ) × (u ≡ entries.SwapOut pid))
HaltsFor stops.JournalFull u s = length s.journal < length (append s.journal u)
HaltsFor stops.NoMemory u s = Unit {0}

-- No more was asked than up to the request that failed, which is the last one.

-- pages of a write are in their blocks, up to one whose blocks have any bytes
abbrev pub SpoilsParts : Inputs → State → List Part → SwapImage → SwapImage → Type 0
SpoilsParts A s [] image after = ⊥
SpoilsParts A s (x ∷ xs) image after =
    ((bytes : List ℕ) × (length bytes ≡ 1024) × (after ≡ write_at image (block_of s.holdings x.page) bytes))
    ⊎ SpoilsParts A s xs (write_at image (block_of s.holdings x.page) (memory_of A.images s.point.flat x.page)) after

-- the oldest transfer is a write, of whose pages some are in their blocks, up to one whose blocks have any bytes
abbrev pub SpoilsOldest : Inputs → State → List Transfer → SwapImage → SwapImage → Type 0
SpoilsOldest A s [] image after = ⊥
SpoilsOldest A s (t ∷ ts) image after = (t.errand ≡ Writes) × SpoilsParts A s t.parts image after

-- a write that fails leaves the swap image as it was but for the blocks of its own pages, or of the u page
abbrev pub SpoilsImage : Inputs → State → Entry → SwapImage → SwapImage → Type 0
SpoilsImage A s entries.Done image after = SpoilsOldest A s s.place.transfers image after
SpoilsImage A s (entries.SwapOut pid) image after =
    (bytes : List ℕ) × (length bytes ≡ 1024) × (after ≡ write_at image (block_in s.holdings (owners.U pid) 0) bytes)
SpoilsImage A s _ image after = ⊥

-- pages of a read from this source were asked for, up to one
abbrev pub AsksParts : Inputs → State → Source → List Part → SwapImage → SwapImage → Type 0
AsksParts A s source [] image after = ⊥
AsksParts A s source (x ∷ xs) image after =
    (after ≡ with_requests (read_asks (image_files A) (image_of s.place) s.holdings source x) image)
    ⊎ AsksParts A s source xs (with_requests (read_asks (image_files A) (image_of s.place) s.holdings source x) image) after

-- by what a transfer is for
abbrev pub AsksErrand : Inputs → State → Errand → List Part → SwapImage → SwapImage → Type 0
AsksErrand A s Writes xs image after = ⊥
AsksErrand A s (Reads source demanded) xs image after = AsksParts A s source xs image after

-- the oldest transfer is a read, of whose pages some were asked for, up to one
abbrev pub AsksOldest : Inputs → State → List Transfer → SwapImage → SwapImage → Type 0
AsksOldest A s [] image after = ⊥
AsksOldest A s (t ∷ ts) image after = AsksErrand A s t.errand t.parts image after

-- a read that fails changes no byte: pages of its transfer were asked for, of swap or of their image's file, or the u page
abbrev pub AsksImage : Inputs → State → Entry → SwapImage → SwapImage → Type 0
AsksImage A s entries.Done image after = AsksOldest A s s.place.transfers image after
AsksImage A s (entries.SwapIn pid) image after = after ≡ read_at image (block_in s.holdings (owners.U pid) 0)
AsksImage A s _ image after = ⊥

-- any other halt leaves it as it was, and asks nothing
abbrev pub LeavesImage : Stop → Inputs → State → Entry → SwapImage → SwapImage → Type 0
LeavesImage stops.FileFault A s u image after = AsksImage A s u image after
LeavesImage stops.SwapReadFault A s u image after = AsksImage A s u image after
LeavesImage stops.SwapWriteFault A s u image after = SpoilsImage A s u image after
LeavesImage _ A s u image after = after ≡ image
