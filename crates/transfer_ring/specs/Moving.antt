-- What a read's end says of its sources, and which count of faults rose.
use Rattle.std.specs.Prelude.{◌≡◌, ℕ, List, Option, ⊤}
use Rattle.vm_facts.specs.SwapImages.{SwapImage}
use Rattle.io_edge.specs.Count.{Rose}
use Rattle.io_edge.specs.FileRequests.{FileNotes}
use Rattle.transfer_ring.specs.declared.moving.Filled.{Filled}
use Rattle.transfer_ring.specs.declared.moving.Filled.TheVariants.{Done, FileFault, SwapFault}
use Rattle.transfer_ring.specs.declared.transfer.Inbound.{Inbound}
use Rattle.transfer_ring.specs.declared.transfer.Source.{Source}
use Rattle.transfer_ring.specs.Parts.{IsSwap, IsFile, SomeFrom, AsksParts, AsksSome, AsksFiles, AsksSomeFiles}

-- the fact holds where all was read
abbrev pub OnFilled : Filled → Type 0 → Type 0
OnFilled Done P = P
OnFilled FileFault P = ⊤
OnFilled SwapFault P = ⊤

-- a read of this source fails as those of its kind do
abbrev pub FailsFrom : Filled → Source → Type 0
FailsFrom Done source = ⊤
FailsFrom FileFault source = IsFile source
FailsFrom SwapFault source = IsSwap source

-- of these parts, some part is of the kind that failed
abbrev pub FailsFromSome : Filled → List Inbound → Type 0
FailsFromSome Done parts = ⊤
FailsFromSome FileFault parts = SomeFrom IsFile parts
FailsFromSome SwapFault parts = SomeFrom IsSwap parts

-- the swap image after a read of these parts
abbrev pub AsksFor : Filled → List Inbound → Option SwapImage → Option SwapImage → Type 0
AsksFor Done parts old new = AsksParts parts old new
AsksFor FileFault parts old new = AsksSome parts old new
AsksFor SwapFault parts old new = AsksSome parts old new

-- what the files will have noted after a read of these parts
abbrev pub NotesFor : Filled → List Inbound → FileNotes → FileNotes → Type 0
NotesFor Done parts old new = AsksFiles parts old new
NotesFor FileFault parts old new = AsksSomeFiles parts old new
NotesFor SwapFault parts old new = AsksSomeFiles parts old new

-- the files' count of faults rises where a file's read failed, and nowhere else
abbrev pub CountsFile : Filled → ℕ → ℕ → Type 0
CountsFile Done old new = new ≡ old
CountsFile FileFault old new = Rose old new
CountsFile SwapFault old new = new ≡ old

-- the swap device's count of failed reads rises where its read failed, and nowhere else
abbrev pub CountsSwap : Filled → ℕ → ℕ → Type 0
CountsSwap Done old new = new ≡ old
CountsSwap FileFault old new = new ≡ old
CountsSwap SwapFault old new = Rose old new
