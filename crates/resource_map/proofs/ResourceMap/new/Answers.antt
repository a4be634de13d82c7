use Rattle.std.proofs.Common.{Bool, List, ap}
use Rattle.resource_map.specs.Blocks.{Blocks}
use Rattle.resource_map.proofs.BlockLaws.{free_blocks_all}
use Rattle.resource_map.proofs.ResourceMap.new.Goals as goal

abbrev none_spare : List Bool → Blocks
none_spare free = record { free = free; spare = 0 }

pub returns : goal.returns
returns c = ap none_spare (free_blocks_all c.args.size c.in_ok-extents.extents.items c.in_ok-extents.ensures.all)
