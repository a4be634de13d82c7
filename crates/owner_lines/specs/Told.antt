-- What the lines of frames and of the swap area tell is so, and all of it.
use Rattle.std.specs.Prelude.{◌≡◌, ℕ, zero, suc, ◌+◌, ◌<◌, ◌&&◌, ◌⊎◌, nat_le, nat_lt, Bool, true, false, if◌then◌else◌, List, [], ◌∷◌, length, slice_get, Option, Some, None}
use Rattle.vm_facts.specs.declared.page.Page.{Page}
use Rattle.vm_facts.specs.declared.page.PageState.{PageState}
use Rattle.vm_facts.specs.declared.page.PageState.TheVariants.{Valid, Invalid}
use Rattle.vm_facts.specs.Lists.{times}
use Rattle.page_model.specs.Owner.{Owner}
use Rattle.page_model.specs.Holdings.{Holdings, is_in}
use Rattle.page_model.specs.Frames.{count_up}
use Rattle.page_model.specs.Placement.{Part, Transfer, Placement, state_of, page_of, moving_state}
use Rattle.owner_lines.specs.Owners.{is_unsaved}
use Rattle.owner_lines.specs.Carried.{is_write}
use Rattle.owner_lines.specs.Lines.{Said, Free, Used, InTransfer, FrameLine, frames_told, places_told, Extent}

-- Frames.

-- what stands in a place of a list, 1 for its head
abbrev pub in_place : {A : Type 0} → List A → ℕ → Option A
in_place xs zero = None
in_place xs (suc n) = slice_get xs n

-- the state of a page that is valid or invalid in a frame
abbrev pub used_state : Bool → ℕ → PageState
used_state true f = Valid f
used_state false f = Invalid f

-- a page is in a frame as a part of a transfer
abbrev pub HasPart : Page → ℕ → List Part → Type 0
HasPart q f [] = ⊥
HasPart q f (x ∷ xs) = ((x.page ≡ q) × (x.frame ≡ f)) ⊎ HasPart q f xs

-- the frame stands in this place on the free list, and holds that page or none
pub record IsFree (p : Placement) (f n : ℕ) (page : Option Page) : Type 0 where
  pub place : in_place p.free n ≡ Some f
  pub still : page_of p f ≡ page

-- the page is in the frame, which isn't free
pub record IsUsed (p : Placement) (f : ℕ) (valid : Bool) (q : Page) (dirty : Bool) : Type 0 where
  pub off : times f p.free ≡ 0
  pub state : state_of p q ≡ used_state valid f
  pub unsaved : is_unsaved p q ≡ dirty

-- the transfer of this number, 1 for the oldest, has the page in the frame, which isn't free
pub record IsInTransfer (p : Placement) (f : ℕ) (write : Bool) (n : ℕ) (q : Page) : Type 0 where
  pub off : times f p.free ≡ 0
  pub transfer : Transfer
  pub number : in_place p.transfers n ≡ Some transfer
  pub part : HasPart q f transfer.parts
  pub errand : is_write transfer.errand ≡ write
  pub state : state_of p q ≡ moving_state transfer.errand f

-- what is said of a frame is so
abbrev pub IsSo : Placement → ℕ → Said → Type 0
IsSo p f (Free n page) = IsFree p f n page
IsSo p f (Used valid q dirty) = IsUsed p f valid q dirty
IsSo p f (InTransfer write n q) = IsInTransfer p f write n q

-- what each of these lines says of its frame is so
abbrev pub AreSo : Placement → List FrameLine → Type 0
AreSo p [] = Unit {0}
AreSo p (x ∷ xs) = IsSo p x.frame x.said × AreSo p xs

-- the lines tell each frame once, and what they say is so
pub record FramesTold (p : Placement) (lines : List FrameLine) : Type 0 where
  -- each frame has one line, in the order of their numbers
  pub frames : frames_told lines ≡ count_up 1 (length p.holds)
  pub so : AreSo p lines
  -- the places that are told are those from 1 to the free list's length, each once
  pub places : (n : ℕ) → times n (places_told lines) ≡ times n (count_up 1 (length p.free))

-- The swap area.

-- each row of blocks has one or more, and begins where the one before it ends; the first begins at a block, the last ends at another
abbrev pub Tile : ℕ → ℕ → List Extent → Type 0
Tile from end [] = from ≡ end
Tile from end (x ∷ xs) = (x.start ≡ from) × (0 < x.length) × Tile (from + x.length) end xs

-- who is told to hold a block, if any
abbrev pub told_holder : ℕ → List Extent → Option Owner
told_holder b [] = None
told_holder b (x ∷ xs) = if nat_le x.start b && nat_lt b (x.start + x.length) then x.holder else told_holder b xs

-- who holds a block, if any
abbrev pub holder_of : ℕ → Holdings → Option Owner
holder_of b [] = None
holder_of b (h ∷ hs) = if is_in h b then Some h.owner else holder_of b hs

-- the lines tell each block of the swap area once, with its holder
pub record SwapTold (size : ℕ) (hs : Holdings) (extents : List Extent) : Type 0 where
  -- the extents cover the area, without a gap or an overlap
  pub tiled : Tile 0 size extents
  -- each block is told with its holder
  pub so : (b : ℕ) → told_holder b extents ≡ holder_of b hs
