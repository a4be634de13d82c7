-- A resource map as its callers see it: a set of free blocks.
use Rattle.std.specs.Prelude.{ℕ, ◌+◌, ◌-◌, Bool, true, false, List, ◌++◌, length, take, drop, replicate, slice_index_or, Option, Some, None}
use Rattle.resource_map.specs.Room.{lowest_room}

-- for each block whether it is free, and how many ranges may still be freed
pub record Blocks : Type 0 where
  pub free : List Bool
  pub spare : ℕ

-- block b is there and free
abbrev pub is_free_block : List Bool → ℕ → Bool
is_free_block free b = slice_index_or free b false

-- the lowest start from which n blocks of one unit are free, where there is one
abbrev pub lowest_start : Blocks → ℕ → Option ℕ
lowest_start blocks n = lowest_room (is_free_block blocks.free) (length blocks.free) n

-- the n blocks from start on are made free, or taken
unfoldable pub marked : List Bool → ℕ → ℕ → Bool → List Bool
marked free start n to = take start free ++ replicate n to ++ drop (start + n) free

-- every block is free
abbrev pub all_free : ℕ → Blocks
all_free size = record { free = replicate size true; spare = 0 }

-- n blocks are taken, where a start was found for them
abbrev pub taken : Blocks → ℕ → Option ℕ → Blocks
taken blocks n None = blocks
taken blocks n (Some start) = record { free = marked blocks.free start n false; spare = blocks.spare + 1 }

-- n blocks are free again
abbrev pub freed : Blocks → ℕ → ℕ → Blocks
freed blocks start n = record { free = marked blocks.free start n true; spare = blocks.spare - 1 }
