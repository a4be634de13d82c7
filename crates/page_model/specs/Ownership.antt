-- Each frame has one owner: the free list, a transfer, or the page that it holds.
use Rattle.std.specs.Prelude.{◌≡◌, ℕ, zero, suc, ◌+◌, ◌-◌, ◌*◌, ◌<◌, ◌⊎◌, Bool, true, false, List, [], ◌∷◌, length, Option, Some, None}
use Rattle.vm_facts.specs.declared.page.Page.{Page}
use Rattle.vm_facts.specs.declared.page.Page.TheVariants.{Data, Stack, Text}
use Rattle.vm_facts.specs.declared.page.PageState.{PageState}
use Rattle.vm_facts.specs.declared.page.PageState.TheVariants.{Unfilled, Valid, Invalid, Coming, Going, OnSwap}
use Rattle.swap_book.specs.Chunks.{pieces, text_pieces}
use Rattle.swap_book.specs.declared.Owner.{Owner}
use Rattle.swap_book.specs.declared.Owner.TheVariants as owners
use Rattle.swap_book.specs.Owners.{u_pieces}
use Rattle.swap_book.specs.Holdings.{Holdings, lengths, block_in}
use Rattle.swap_book.specs.Book.{IsBook, IsPlace}
use Rattle.flat_state.specs.PageNames.{number_of}
use Rattle.page_model.specs.Pages.{unsaved_mark, frame_of}
use Rattle.vm_facts.specs.Lists.{times}
use Rattle.page_model.specs.Placement.{Placement, Moving, slots_of, state_of, mark_of, page_of, sharers, IsFrame, parts_of, flying, moving_state}

-- whether a page in this state holds its frame off the free list, where the frame stands `listed` times on that list
abbrev pub seats : ℕ → PageState → ℕ
seats listed Unfilled = 0
seats listed (Valid f) = 1
seats listed (Invalid f) = 1 - listed
seats listed (Coming f) = 0
seats listed (Going f) = 0
seats listed OnSwap = 0

-- whether the page that a frame holds, if any, holds it off the free list: 1 or 0
abbrev pub seated_of : Placement → ℕ → Option Page → ℕ
seated_of p f None = 0
seated_of p f (Some q) = seats (times f p.free) (state_of p q)

-- 1 where the frame holds a page that is valid or invalid, and is off the free list
abbrev pub seated : Placement → ℕ → ℕ
seated p f = seated_of p f (page_of p f)

-- something is so of each page in flight
abbrev pub Each : (Moving → Type 0) → List Moving → Type 0
Each P [] = Unit {0}
Each P (m ∷ ms) = P m × Each P ms

-- a page in a transfer is coming or going, in the frame that the transfer has for it
abbrev pub IsMoving : Placement → Moving → Type 0
IsMoving p m = state_of p m.page ≡ moving_state m.errand m.frame

-- a data or stack page that is dirty; a text page never is so marked
abbrev pub is_marked_dirty : Page → Bool → Bool
is_marked_dirty (Data sid v) dirty = dirty
is_marked_dirty (Stack sid v) dirty = dirty
is_marked_dirty (Text image v) saved = false

-- a page in this state may be dirty: it is usable, invalid in its frame, or on its way to swap
abbrev pub may_be_dirty : PageState → Bool
may_be_dirty Unfilled = false
may_be_dirty (Valid f) = true
may_be_dirty (Invalid f) = true
may_be_dirty (Coming f) = false
may_be_dirty (Going f) = true
may_be_dirty OnSwap = false

-- what is so of a free frame that still holds a page
pub record IsListed (p : Placement) (f : ℕ) (q : Page) : Type 0 where
  pub state : state_of p q ≡ Invalid f
  pub clean : is_marked_dirty q (mark_of p q) ≡ false

-- each frame has one owner; frames, pages and transfers agree; a dirty page has a frame, which isn't free
pub record OwnsFrames (p : Placement) : Type 0 where
  -- each frame stands exactly once: on the free list, in a transfer, or with a page that holds it
  pub once : (f : ℕ) → IsFrame p f → times f p.free + times f (flying (parts_of p.transfers)) + seated p f ≡ 1
  pub frames : (f : ℕ) → 0 < times f p.free → IsFrame p f
  -- a page that names a frame is the page of that frame, and no page has two
  pub names : (q : Page) (f : ℕ) → frame_of (state_of p q) ≡ Some f → page_of p f ≡ Some q
  pub named : (f : ℕ) (q : Page) → page_of p f ≡ Some q → frame_of (state_of p q) ≡ Some f
  -- a page whose frame is free is invalid and not dirty
  pub listed : (f : ℕ) (q : Page) → 0 < times f p.free → page_of p f ≡ Some q → IsListed p f q
  pub moves : Each (IsMoving p) (parts_of p.transfers)
  -- a dirty page is in a frame, and isn't being read
  pub dirty : (q : Page) → is_marked_dirty q (mark_of p q) ≡ true → may_be_dirty (state_of p q) ≡ true

-- Blocks of swap.

-- who holds the blocks of a page
abbrev pub owner_of : Page → Owner
owner_of (Data sid v) = owners.Data sid
owner_of (Stack sid v) = owners.Stack sid
owner_of (Text image v) = owners.Text image

-- the first of the two blocks of a page, where its owner has a place for it
abbrev pub block_of : Holdings → Page → Option ℕ
block_of hs q = block_in hs (owner_of q) (number_of q)

-- an image's pieces are held as long as a space shares it
abbrev pub text_pieces_while : ℕ → ℕ → List ℕ
text_pieces_while zero blocks = []
text_pieces_while (suc sharers) blocks = text_pieces blocks

-- each process that isn't a zombie holds one u page
abbrev pub u_blocks : Bool → ℕ
u_blocks true = 2
u_blocks false = 0

-- each space, shared text and living process holds the pieces of swap for its pages or its u page, and no others
pub record OwnsBlocks (size : ℕ) (lives : ℕ → Bool) (p : Placement) (hs : Holdings) : Type 0 where
  -- no two holdings overlap, none passes the end and none crosses a multiple of 1,024
  pub book : IsBook size hs
  pub data_held : (sid : ℕ) → lengths (owners.Data sid) hs ≡ pieces (2 * length (slots_of p (Data sid 0)))
  pub stack_held : (sid : ℕ) → lengths (owners.Stack sid) hs ≡ pieces (2 * length (slots_of p (Stack sid 0)))
  pub text_held : (image : ℕ) → lengths (owners.Text image) hs ≡ text_pieces_while (sharers p image) (2 * length (slots_of p (Text image 0)))
  pub u_held : (pid : ℕ) → lengths (owners.U pid) hs ≡ u_pieces (u_blocks (lives pid))

-- a text page that nobody shares isn't saved; it is at most in a free frame
pub record IsAside (p : Placement) (q : Page) : Type 0 where
  pub unsaved : mark_of p q ≡ unsaved_mark
  pub rests : (state_of p q ≡ Unfilled) ⊎ ((f : ℕ) × (state_of p q ≡ Invalid f) × (0 < times f p.free))

-- each text page of an image that no space shares is unsaved, and at most in a free frame
abbrev pub TextAside : Placement → Type 0
TextAside p = (image v : ℕ) → sharers p image ≡ 0 → IsAside p (Text image v)

-- the page needs its blocks: it is on swap or in a transfer, or it is saved text
abbrev pub needs_blocks_by : Page → PageState → Bool → Bool
needs_blocks_by (Text image v) s true = true
needs_blocks_by q OnSwap mark = true
needs_blocks_by q (Coming f) mark = true
needs_blocks_by q (Going f) mark = true
needs_blocks_by q s mark = false

-- whether a page needs its two blocks, by its state and mark
abbrev pub needs_blocks : Placement → Page → Bool
needs_blocks p q = needs_blocks_by q (state_of p q) (mark_of p q)

-- the page's two blocks, at its place in its own owner's holding
pub record HasBlocks (size : ℕ) (hs : Holdings) (q : Page) : Type 0 where
  pub first : ℕ
  pub found : block_of hs q ≡ Some first
  -- both are below the size, in one piece of the owner
  pub own : IsPlace size hs (owner_of q) first

-- Each frame and each block has one owner or is free; a page that is on swap, in a transfer, or saved has its two blocks
-- in its own owner's holding.
pub record OneOwner (size : ℕ) (lives : ℕ → Bool) (p : Placement) (hs : Holdings) : Type 0 where
  pub frames : OwnsFrames p
  pub blocks : OwnsBlocks size lives p hs
  pub aside : TextAside p
  -- each page that needs its blocks has them
  pub places : (q : Page) → needs_blocks p q ≡ true → HasBlocks size hs q
