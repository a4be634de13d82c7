-- What the end of the oldest transfer comes to, by the swap image before and after.
use Rattle.std.specs.Prelude.{◌≡◌, ℕ, List, [], ◌∷◌, Option}
use Rattle.vm_facts.specs.declared.page.Page.{Page}
use Rattle.io_edge.specs.Count.{Rose}
use Rattle.vm_facts.specs.SwapImages.{SwapImage}
use Rattle.io_edge.specs.FileHolding.{NamedFile}
use Rattle.io_edge.specs.FileRequests.{FileNotes}
use Rattle.io_edge.specs.SwapImage.{bytes_told}
use Rattle.transfer_ring.specs.declared.transfer.Transfer.{Transfer}
use Rattle.transfer_ring.specs.declared.transfer.Transfer.TheVariants.{Read, Write}
use Rattle.transfer_ring.specs.declared.transfer.Inbound.{Inbound}
use Rattle.transfer_ring.specs.declared.transfer.Finished.{Finished}
use Rattle.transfer_ring.specs.declared.transfer.Finished.TheVariants.{Done, FileFault, SwapReadFault, SwapWriteFault, Idle}
use Rattle.transfer_ring.specs.Parts.{AreSameParts, PartsAreRead, AsksParts, AsksSome, AsksFiles, AsksSomeFiles, WritesParts, SpoilsParts, IsSwap, IsFile, SomeFrom}

-- the same read: its pages, frames and sources
abbrev pub IsSameRead : Page → List Inbound → Transfer → Type 0
IsSameRead demanded parts (Read page news) = (page ≡ demanded) × AreSameParts parts news.items
IsSameRead demanded parts (Write news) = ⊥

-- each page of the read has the bytes of its source
abbrev pub IsReadWhole : Option (List NamedFile) → Option (List ℕ) → Transfer → Type 0
IsReadWhole holds swap (Read page parts) = PartsAreRead holds swap parts.items
IsReadWhole holds swap (Write parts) = ⊥

-- how a read of these parts ends, a fault only where some part has a source of its kind
abbrev pub EndsRead : Page → List Inbound → Option (List NamedFile) → Option (List ℕ) → Finished → Type 0
EndsRead demanded parts holds swap (Done transfer) = IsSameRead demanded parts transfer × IsReadWhole holds swap transfer
EndsRead demanded parts holds swap (FileFault transfer) = IsSameRead demanded parts transfer × SomeFrom IsFile parts
EndsRead demanded parts holds swap (SwapReadFault transfer) = IsSameRead demanded parts transfer × SomeFrom IsSwap parts
EndsRead demanded parts holds swap (SwapWriteFault transfer) = ⊥
EndsRead demanded parts holds swap Idle = ⊥

-- the swap image after a read of these parts that ended so: each page of swap was asked for once, up to the first fault
abbrev pub AsksUntil : List Inbound → Option SwapImage → Option SwapImage → Finished → Type 0
AsksUntil parts old new (Done transfer) = AsksParts parts old new
AsksUntil parts old new (FileFault transfer) = AsksSome parts old new
AsksUntil parts old new (SwapReadFault transfer) = AsksSome parts old new
AsksUntil parts old new (SwapWriteFault transfer) = ⊥
AsksUntil parts old new Idle = ⊥

-- how a transfer ends, by the swap image before and after, of which a read changes no byte
abbrev pub Ends : Transfer → Option (List NamedFile) → Option SwapImage → Option SwapImage → Finished → Type 0
Ends (Read demanded parts) holds old new finished = EndsRead demanded parts.items holds (bytes_told old) finished × AsksUntil parts.items old new finished
Ends (Write parts) holds old new (Done transfer) = (transfer ≡ Write parts) × WritesParts parts.items old new
Ends (Write parts) holds old new (SwapWriteFault transfer) = (transfer ≡ Write parts) × SpoilsParts parts.items old new
Ends (Write parts) holds old new (FileFault transfer) = ⊥
Ends (Write parts) holds old new (SwapReadFault transfer) = ⊥
Ends (Write parts) holds old new Idle = ⊥

-- the oldest transfer ends so; where there is none, nothing changes
abbrev pub EndsOldest : List Transfer → Option (List NamedFile) → Option SwapImage → Option SwapImage → Finished → Type 0
EndsOldest [] holds old new finished = (finished ≡ Idle) × (new ≡ old)
EndsOldest (oldest ∷ rest) holds old new finished = Ends oldest holds old new finished

-- what the files will have noted after a read of these parts that ended so: each range was asked for once, up to the first fault
abbrev pub NotesUntil : List Inbound → FileNotes → FileNotes → Finished → Type 0
NotesUntil parts old new (Done transfer) = AsksFiles parts old new
NotesUntil parts old new (FileFault transfer) = AsksSomeFiles parts old new
NotesUntil parts old new (SwapReadFault transfer) = AsksSomeFiles parts old new
NotesUntil parts old new (SwapWriteFault transfer) = ⊥
NotesUntil parts old new Idle = ⊥

-- the same after a transfer ended so: a write asks nothing of them
abbrev pub NotesAfter : Transfer → FileNotes → FileNotes → Finished → Type 0
NotesAfter (Read demanded parts) old new finished = NotesUntil parts.items old new finished
NotesAfter (Write parts) old new finished = new ≡ old

-- after the oldest transfer did; where there is none, nothing is asked
abbrev pub NotesOldest : List Transfer → FileNotes → FileNotes → Finished → Type 0
NotesOldest [] old new finished = new ≡ old
NotesOldest (oldest ∷ rest) old new finished = NotesAfter oldest old new finished

-- a count of faults that rises with a fault of the files, and stays in every other case
abbrev pub CountsPages : Finished → ℕ → ℕ → Type 0
CountsPages (Done transfer) old new = new ≡ old
CountsPages (FileFault transfer) old new = Rose old new
CountsPages (SwapReadFault transfer) old new = new ≡ old
CountsPages (SwapWriteFault transfer) old new = new ≡ old
CountsPages Idle old new = new ≡ old

-- the same of failed reads from the swap device
abbrev pub CountsReads : Finished → ℕ → ℕ → Type 0
CountsReads (Done transfer) old new = new ≡ old
CountsReads (FileFault transfer) old new = new ≡ old
CountsReads (SwapReadFault transfer) old new = Rose old new
CountsReads (SwapWriteFault transfer) old new = new ≡ old
CountsReads Idle old new = new ≡ old

-- the same of failed writes to the swap device
abbrev pub CountsWrites : Finished → ℕ → ℕ → Type 0
CountsWrites (Done transfer) old new = new ≡ old
CountsWrites (FileFault transfer) old new = new ≡ old
CountsWrites (SwapReadFault transfer) old new = new ≡ old
CountsWrites (SwapWriteFault transfer) old new = Rose old new
CountsWrites Idle old new = new ≡ old
