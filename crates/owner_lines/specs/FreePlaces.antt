-- The place of each free frame on the free list, kept by frame number.
use Rattle.std.specs.Prelude.{◌≡◌, ℕ, ◌<◌, List, length, slice_index}
use Rattle.vm_facts.specs.Lists.{times}
use Rattle.page_model.specs.Placement.{Placement}
use Rattle.owner_lines.specs.Owners.{free_place}

-- there is a number for each frame, and it is the place of each frame that is free
pub record AreFreePlaces (p : Placement) (places : List ℕ) : Type 0 where
  pub long : length p.holds < length places
  pub free : (f : ℕ) → 0 < times f p.free → slice_index places f ≡ free_place p f
