-- Pages of a swap device that lie together, each in the two blocks behind those of the one before. Each is asked for by a request of
-- its own, in their order.
use Rattle.std.specs.Prelude.{◌≡◌, ◌⊎◌, ℕ, ◌+◌, ◌-◌, ◌/◌, ◌%◌, ◌<◌, ◌≤◌, List, [], ◌∷◌, length, take, Option, Some, None}
use Rattle.io_edge.specs.declared.Moved.{Moved}
use Rattle.io_edge.specs.declared.Moved.TheVariants.{Done, Failed}
use Rattle.io_edge.specs.SwapImage.{WritesPage, SpoilsPage}
use Rattle.vm_facts.specs.SwapImages.{SwapImage}

-- the image after these pages were written, one after another, the first in the two blocks from this one on
abbrev pub WritesPages : Option SwapImage → ℕ → List (List ℕ) → Option SwapImage → Type 0
WritesPages old block [] new = new ≡ old
WritesPages old block (page ∷ pages) new = (next : Option SwapImage) × WritesPage old block page next × WritesPages next (block + 2) pages new

-- the image after the write of one of these pages failed; those before it were written, and those behind it weren't tried
abbrev pub SpoilsPages : Option SwapImage → ℕ → List (List ℕ) → Option SwapImage → Type 0
SpoilsPages old block [] new = ⊥
SpoilsPages old block (page ∷ pages) new =
    SpoilsPage old block new ⊎ ((next : Option SwapImage) × WritesPage old block page next × SpoilsPages next (block + 2) pages new)

-- so many pages from the first on were written by one call, at least one; or the write of a page failed
abbrev pub WritesSomePages : Option ℕ → Option SwapImage → ℕ → List (List ℕ) → Option SwapImage → Type 0
WritesSomePages (Some count) old block pages new = (0 < count) × (count ≤ length pages) × WritesPages old block (take count pages) new
WritesSomePages None old block pages new = SpoilsPages old block pages new

-- how such a call ended
abbrev pub moved_of : Option ℕ → Moved
moved_of (Some count) = Done
moved_of None = Failed

-- of pages that lie together, the first from this block on, those that lie in the first one's unit of 1,024 blocks
abbrev pub pages_of_unit : ℕ → List (List ℕ) → List (List ℕ)
pages_of_unit block pages = take ((1024 - block % 1024) / 2) pages
