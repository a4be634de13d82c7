-- The parts of a transfer before and after its completion.
use Rattle.std.specs.Prelude.{◌≡◌, ◌⊎◌, ◌-◌, ℕ, List, [], ◌∷◌, Option, take, drop, replicate, ⊤}
use Rattle.io_edge.specs.FileHolding.{NamedFile, HoldsRange}
use Rattle.io_edge.specs.FileRequests.{FileNotes, FileRead, after_request}
use Rattle.io_edge.specs.SwapImage.{HoldsPage, ReadsPage, WritesPage, SpoilsPage}
use Rattle.vm_facts.specs.SwapImages.{SwapImage}
use Rattle.transfer_ring.specs.declared.transfer.Inbound.{Inbound}
use Rattle.transfer_ring.specs.declared.transfer.Outbound.{Outbound}
use Rattle.transfer_ring.specs.declared.transfer.Source.{Source}
use Rattle.transfer_ring.specs.declared.transfer.Source.TheVariants.{Swap, File}

-- the bytes of a page that was read: those of swap, or those of the range of the file, and
-- zeros after them; where the bytes of swap or the files aren't told, any that such a source may have
abbrev pub HasRead : Option (List NamedFile) → Option (List ℕ) → Source → List ℕ → Type 0
HasRead holds swap (Swap block) bytes = HoldsPage swap block bytes
HasRead holds swap (File id offset count) bytes = HoldsRange holds id offset (take count bytes) × (drop count bytes ≡ replicate (1024 - count) 0)

-- the two kinds of sources
abbrev pub IsSwap : Source → Type 0
IsSwap (Swap block) = ⊤
IsSwap (File id offset count) = ⊥

-- the other kind: the range of a file
abbrev pub IsFile : Source → Type 0
IsFile (Swap block) = ⊥
IsFile (File id offset count) = ⊤

-- some part has a source of this kind
abbrev pub SomeFrom : (Source → Type 0) → List Inbound → Type 0
SomeFrom IsKind [] = ⊥
SomeFrom IsKind (part ∷ rest) = IsKind part.source ⊎ SomeFrom IsKind rest

-- the same page, frame and source; the bytes may be others
pub record IsSamePart (old new : Inbound) : Type 0 where
  pub page : new.page ≡ old.page
  pub frame : new.token.number ≡ old.token.number
  pub source : new.source ≡ old.source

-- the same parts, one by one
abbrev pub AreSameParts : List Inbound → List Inbound → Type 0
AreSameParts [] [] = ⊤
AreSameParts (old ∷ olds) (new ∷ news) = IsSamePart old new × AreSameParts olds news
AreSameParts olds news = ⊥

-- every part was read
abbrev pub PartsAreRead : Option (List NamedFile) → Option (List ℕ) → List Inbound → Type 0
PartsAreRead holds swap [] = ⊤
PartsAreRead holds swap (part ∷ rest) = HasRead holds swap part.source part.token.bytes × PartsAreRead holds swap rest

-- what a read from this source asks of the swap device: its page, or nothing where a file has it
abbrev pub AsksSource : Source → Option SwapImage → Option SwapImage → Type 0
AsksSource (Swap block) old new = ReadsPage old block new
AsksSource (File id offset count) old new = new ≡ old

-- the swap image after all parts were read, one after another
abbrev pub AsksParts : List Inbound → Option SwapImage → Option SwapImage → Type 0
AsksParts [] old new = new ≡ old
AsksParts (part ∷ rest) old new = (next : Option SwapImage) × AsksSource part.source old next × AsksParts rest next new

-- the swap image after the read of one part failed; those before it were read, and those after it weren't tried
abbrev pub AsksSome : List Inbound → Option SwapImage → Option SwapImage → Type 0
AsksSome [] old new = ⊥
AsksSome (part ∷ rest) old new =
    AsksSource part.source old new ⊎ ((next : Option SwapImage) × AsksSource part.source old next × AsksSome rest next new)

-- what a read from this source asks of the files: its range, or nothing where the swap device has the page
abbrev pub AsksFile : Source → FileNotes → FileNotes → Type 0
AsksFile (Swap block) old new = new ≡ old
AsksFile (File id offset count) old new = new ≡ after_request (FileRead id offset count) old

-- what the files will have noted after all parts were read, one after another
abbrev pub AsksFiles : List Inbound → FileNotes → FileNotes → Type 0
AsksFiles [] old new = new ≡ old
AsksFiles (part ∷ rest) old new = (next : FileNotes) × AsksFile part.source old next × AsksFiles rest next new

-- the same after the read of one part failed; those before it were read, and those after it weren't tried
abbrev pub AsksSomeFiles : List Inbound → FileNotes → FileNotes → Type 0
AsksSomeFiles [] old new = ⊥
AsksSomeFiles (part ∷ rest) old new =
    AsksFile part.source old new ⊎ ((next : FileNotes) × AsksFile part.source old next × AsksSomeFiles rest next new)

-- the swap image after all parts were written, one after another
abbrev pub WritesParts : List Outbound → Option SwapImage → Option SwapImage → Type 0
WritesParts [] old new = new ≡ old
WritesParts (part ∷ rest) old new = (next : Option SwapImage) × WritesPage old part.block part.token.bytes next × WritesParts rest next new

-- the swap image after the write of one part failed; those before it were written, and those after it
-- weren't tried
abbrev pub SpoilsParts : List Outbound → Option SwapImage → Option SwapImage → Type 0
SpoilsParts [] old new = ⊥
SpoilsParts (part ∷ rest) old new =
    SpoilsPage old part.block new ⊎ ((next : Option SwapImage) × WritesPage old part.block part.token.bytes next × SpoilsParts rest next new)
