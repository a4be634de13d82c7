-- The private fields of a resource map: what callers see of them, and when they are sound.
use Rattle.std.specs.Prelude.{◌+◌, ◌≤◌, vec_len, vec_capacity}
use Rattle.resource_map.specs.Blocks.{Blocks}
use Rattle.resource_map.specs.Extents.{InOrder, free_blocks}
use Rattle.resource_map.specs.declared.ResourceMap.TheInside.{Inside}

-- the map as its callers see it: which blocks are free, and how many ranges may still be freed
abbrev pub blocks_of : Inside → Blocks
blocks_of a = record { free = free_blocks a.size a.extents.items; spare = a.spare }

-- the extents are in order, and there is room for one more at each range that may be freed
pub record IsMap (a : Inside) : Type 0 where
  pub order : InOrder 0 a.extents.items a.size
  pub room : vec_len a.extents + a.spare ≤ vec_capacity a.extents
