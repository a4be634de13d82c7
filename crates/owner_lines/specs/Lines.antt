-- The lines of frames and of the swap area, before they are spelled.
use Rattle.std.specs.Prelude.{ℕ, ◌+◌, Bool, true, false, List, [], ◌∷◌, ◌++◌, Option, Some, None, codes}
use Rattle.vm_facts.specs.declared.page.Page.{Page}
use Rattle.page_model.specs.Owner.{Owner}
use Rattle.run_text.specs.Text.{parts}
use Rattle.owner_lines.specs.Owners.{kept_text, moved_text, free_text, owner_of_piece, swap_line}
use Rattle.owner_lines.specs.Carried.{carrying_word}

-- Frames.

-- what a line says of a frame
pub data Said : Type 0 where
  -- its place on the free list, and the page that it still holds, if any
  Free : ℕ → Option Page → Said
  -- whether its page is valid or invalid, the page, and whether that is dirty
  Used : Bool → Page → Bool → Said
  -- whether its page is written or read, the number of the transfer, and the page
  InTransfer : Bool → ℕ → Page → Said

-- the line of a frame: its number, and what is said of it
pub record FrameLine : Type 0 where
  pub frame : ℕ
  pub said : Said

-- the word that tells whether a page is valid
abbrev pub valid_word : Bool → List ℕ
valid_word true = codes " valid"
valid_word false = codes " invalid"

-- what is said of a frame, in words
abbrev pub said_text : Said → List ℕ
said_text (Free n page) = free_text n page
said_text (Used valid q dirty) = kept_text (valid_word valid) q dirty
said_text (InTransfer write n q) = moved_text (carrying_word write) n q

-- the line of a frame
abbrev pub frame_text : FrameLine → List ℕ
frame_text x = codes "frame" ++ parts (x.frame ∷ []) ++ said_text x.said ++ codes "\n"

-- 1 for a frame on the free list
abbrev pub free_one : Said → ℕ
free_one (Free n page) = 1
free_one (Used valid q dirty) = 0
free_one (InTransfer write n q) = 0

-- 1 for a frame with a page off the free list
abbrev pub used_one : Said → ℕ
used_one (Free n page) = 0
used_one (Used valid q dirty) = 1
used_one (InTransfer write n q) = 0

-- 1 for a frame that a transfer has
abbrev pub moving_one : Said → ℕ
moving_one (Free n page) = 0
moving_one (Used valid q dirty) = 0
moving_one (InTransfer write n q) = 1

-- how many lines are of a kind
abbrev pub counted : (Said → ℕ) → List FrameLine → ℕ
counted one [] = 0
counted one (x ∷ xs) = one x.said + counted one xs

-- the place on the free list that a line tells, if its frame is free
abbrev pub place_told : Said → List ℕ
place_told (Free n page) = n ∷ []
place_told (Used valid q dirty) = []
place_told (InTransfer write n q) = []

-- the places on the free list that the lines tell
abbrev pub places_told : List FrameLine → List ℕ
places_told [] = []
places_told (x ∷ xs) = place_told x.said ++ places_told xs

-- the frames of the lines
abbrev pub frames_told : List FrameLine → List ℕ
frames_told [] = []
frames_told (x ∷ xs) = x.frame ∷ frames_told xs

-- The swap area.

-- a row of blocks with its holder, if any
pub record Extent : Type 0 where
  pub start : ℕ
  pub length : ℕ
  pub holder : Option Owner

-- who holds a row of blocks, in words
abbrev pub holder_text : Option Owner → List ℕ
holder_text None = codes " free"
holder_text (Some owner) = owner_of_piece owner

-- the line of a row of blocks
abbrev pub extent_text : Extent → List ℕ
extent_text x = swap_line x.start x.length (holder_text x.holder)

-- so many blocks, where someone holds them, or else none
abbrev pub blocks_if_held : Option Owner → ℕ → ℕ
blocks_if_held None n = 0
blocks_if_held (Some owner) n = n

-- how many blocks are told to be held
abbrev pub blocks_told : List Extent → ℕ
blocks_told [] = 0
blocks_told (x ∷ xs) = blocks_if_held x.holder x.length + blocks_told xs
