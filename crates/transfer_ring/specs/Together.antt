-- Parts of a write that lie together.
use Rattle.std.specs.Prelude.{◌≡◌, ◌+◌, ◌<◌, ◌≤◌, ◌==◌, ◌&&◌, ℕ, Bool, true, List, [], ◌∷◌, length, ⊤}
use Rattle.transfer_ring.specs.declared.transfer.Outbound.{Outbound}

-- the parts are in blocks that follow one another, two to a page, the first from this one on
abbrev pub are_together : ℕ → List Outbound → Bool
are_together block [] = true
are_together block (part ∷ rest) = (part.block == block) && are_together (block + 2) rest

-- some parts that are so, for which there is room
pub record AreTogether (parts : List Outbound) (room block : ℕ) : Type 0 where
  pub some : 0 < length parts
  pub few : length parts ≤ room
  pub together : are_together block parts ≡ true

-- the pages of the parts were copied to the front of these pages
abbrev pub CopiesOut : List Outbound → List (List ℕ) → Type 0
CopiesOut [] pages = ⊤
CopiesOut (part ∷ rest) [] = ⊥
CopiesOut (part ∷ rest) (page ∷ pages) = (page ≡ part.token.bytes) × CopiesOut rest pages
