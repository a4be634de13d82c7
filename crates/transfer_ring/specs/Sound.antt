-- What holds of every transfer in flight: rising pages, sources that fit, whole frames.
use Rattle.std.specs.Prelude.{◌≡◌, ◌<◌, ◌≤◌, ◌+◌, ◌%◌, ℕ, List, [], ◌∷◌, Option, length, ⊤}
use Rattle.vm_facts.specs.declared.page.Page.{Page}
use Rattle.vm_facts.specs.declared.page.Page.TheVariants.{Data, Stack, Text}
use Rattle.io_edge.specs.FileHolding.{NamedFile, HasRange}
use Rattle.transfer_ring.specs.declared.transfer.Transfer.{Transfer}
use Rattle.transfer_ring.specs.declared.transfer.Transfer.TheVariants.{Read, Write}
use Rattle.transfer_ring.specs.declared.transfer.Inbound.{Inbound}
use Rattle.transfer_ring.specs.declared.transfer.Outbound.{Outbound}
use Rattle.transfer_ring.specs.declared.transfer.Source.{Source}
use Rattle.transfer_ring.specs.declared.transfer.Source.TheVariants.{Swap, File}

-- the first page comes before the second in one segment
abbrev pub IsBefore : Page → Page → Type 0
IsBefore (Data sid v) (Data other w) = (sid ≡ other) × (v < w)
IsBefore (Stack sid v) (Stack other w) = (sid ≡ other) × (v < w)
IsBefore (Text image v) (Text other w) = (image ≡ other) × (v < w)
IsBefore page other = ⊥

-- each page comes before the next
abbrev pub Rise : Page → List Page → Type 0
Rise page [] = ⊤
Rise page (next ∷ rest) = IsBefore page next × Rise next rest

-- the pages of a read, in the order of its parts
abbrev pub inbound_pages : List Inbound → List Page
inbound_pages [] = []
inbound_pages (part ∷ rest) = part.page ∷ inbound_pages rest

-- the pages of a write, in the order of its parts
abbrev pub outbound_pages : List Outbound → List Page
outbound_pages [] = []
outbound_pages (part ∷ rest) = part.page ∷ outbound_pages rest

-- 1 to 16 pages that rise
abbrev pub IsRun : List Page → Type 0
IsRun [] = ⊥
IsRun (first ∷ rest) = (length rest < 16) × Rise first rest

-- the range of a file that a page has bytes of
abbrev pub IsSource : Source → Type 0
IsSource (Swap block) = ⊤
IsSource (File id offset count) = (0 < offset) × (count ≤ 1024)

-- each part that is read from a file has a range that a page has room for
abbrev pub AreSources : List Inbound → Type 0
AreSources [] = ⊤
AreSources (part ∷ rest) = IsSource part.source × AreSources rest

-- a read of 1 to 16 rising pages, each from a range that its page has room for
abbrev pub IsRead : Transfer → Type 0
IsRead (Read demanded parts) = IsRun (inbound_pages parts.items) × AreSources parts.items
IsRead (Write parts) = ⊥

-- a write of 1 to 16 rising pages
abbrev pub IsWrite : Transfer → Type 0
IsWrite (Read demanded parts) = ⊥
IsWrite (Write parts) = IsRun (outbound_pages parts.items)

-- the range of file sources, of a transfer of either kind
abbrev pub HasSources : Transfer → Type 0
HasSources (Read demanded parts) = AreSources parts.items
HasSources (Write parts) = ⊤

-- a page of a device with so many blocks
abbrev pub IsBlock : ℕ → ℕ → Type 0
IsBlock blocks block = (block % 2 ≡ 0) × (block + 2 ≤ blocks)

-- the source is there
abbrev pub IsSourceThere : Option (List NamedFile) → ℕ → Source → Type 0
IsSourceThere holds blocks (Swap block) = IsBlock blocks block
IsSourceThere holds blocks (File id offset count) = HasRange holds id offset count

-- the source of each part is there
abbrev pub AreThere : Option (List NamedFile) → ℕ → List Inbound → Type 0
AreThere holds blocks [] = ⊤
AreThere holds blocks (part ∷ rest) = IsSourceThere holds blocks part.source × AreThere holds blocks rest

-- the block of each part is that of a page of the device
abbrev pub AreBlocks : ℕ → List Outbound → Type 0
AreBlocks blocks [] = ⊤
AreBlocks blocks (part ∷ rest) = IsBlock blocks part.block × AreBlocks blocks rest

-- every block that the transfer names is even and on the device, and every range in its file, where the
-- files are told
abbrev pub IsReachable : Option (List NamedFile) → ℕ → Transfer → Type 0
IsReachable holds blocks (Read demanded parts) = AreThere holds blocks parts.items
IsReachable holds blocks (Write parts) = AreBlocks blocks parts.items

-- each of these transfers is so
abbrev pub AreReachable : Option (List NamedFile) → ℕ → List Transfer → Type 0
AreReachable holds blocks [] = ⊤
AreReachable holds blocks (transfer ∷ rest) = IsReachable holds blocks transfer × AreReachable holds blocks rest
