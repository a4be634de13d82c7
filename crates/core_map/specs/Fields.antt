-- The core map by its private fields: what callers see of them, and when they fit together.
use Rattle.std.specs.Prelude.{◌≡◌, length, map}
use Rattle.core_map.specs.Frames.{Frames, IsSoundMap}
use Rattle.core_map.specs.Slots.{text_of}
use Rattle.core_map.specs.declared.map.CoreMap.TheInside.{Inside}

-- the core map as its callers see it: the free list, and what it has for each frame
abbrev pub map_of : Inside → Frames
map_of a = record { free = a.free.frames; slots = a.slots.items }

-- the free list and the slots are a sound map, and the index has the text pages that the frames hold
pub record IsCoreMap (a : Inside) : Type 0 where
  pub bound : a.free.bound ≡ length a.slots.items
  pub text : a.text ≡ map text_of a.slots.items
  pub sound : IsSoundMap a.free.frames a.slots.items
