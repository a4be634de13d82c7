-- What a call makes of a swap device as it is told: its bytes, 512 a block, two blocks a page, and what was asked of it.
use Rattle.io_edge.specs.Count.{OnDone, OnFailed}
use Rattle.io_edge.specs.declared.Moved.{Moved}
use Rattle.vm_facts.specs.Swap.{blocks_at, put_blocks}
use Rattle.vm_facts.specs.SwapImages.{SwapImage, SwapRead, SwapWrite, with_request}
use Rattle.std.specs.Prelude.{◌≡◌, ℕ, List, length, Option, Some, None, ⊤}

-- the bytes of an image that is told
abbrev pub bytes_told : Option SwapImage → Option (List ℕ)
bytes_told None = None
bytes_told (Some image) = Some image.bytes

-- where the bytes are told, these are their page
abbrev pub HoldsPage : Option (List ℕ) → ℕ → List ℕ → Type 0
HoldsPage None block bytes = ⊤
HoldsPage (Some image) block bytes = bytes ≡ blocks_at image block

-- the image after a read of the page, which changes no byte; it stays told, or untold
abbrev pub ReadsPage : Option SwapImage → ℕ → Option SwapImage → Type 0
ReadsPage None block new = new ≡ None
ReadsPage (Some image) block new = new ≡ Some (with_request (SwapRead block) image)

-- an image after a page of it was written
abbrev pub page_written : SwapImage → ℕ → List ℕ → SwapImage
page_written image block bytes = with_request (SwapWrite block) (record image { bytes = put_blocks image.bytes block bytes })

-- the image after the page was written; it stays told, or untold
abbrev pub WritesPage : Option SwapImage → ℕ → List ℕ → Option SwapImage → Type 0
WritesPage None block bytes new = new ≡ None
WritesPage (Some image) block bytes new = new ≡ Some (page_written image block bytes)

-- the image after some bytes came into the page by a write: all else is as it was
abbrev pub SpoilsPage : Option SwapImage → ℕ → Option SwapImage → Type 0
SpoilsPage old block new = (bytes : List ℕ) × (length bytes ≡ 1024) × WritesPage old block bytes new

-- the image after a write with this answer
abbrev pub LeavesPage : Moved → Option SwapImage → ℕ → List ℕ → Option SwapImage → Type 0
LeavesPage moved old block bytes new = OnDone moved (WritesPage old block bytes new) × OnFailed moved (SpoilsPage old block new)
