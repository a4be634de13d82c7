use Rattle.std.proofs.Common.{sym, ap, length, ◌∙◌}
use Rattle.resource_map.specs.Blocks.{Blocks}
use Rattle.resource_map.proofs.BlockLaws.{length-free_blocks}
use Rattle.resource_map.proofs.ResourceMap.size.Goals as goal

pub returns : goal.returns
returns c =
    sym (length-free_blocks c.self.inside.size c.self.inside.extents.items) ∙
    ap (λ (m : Blocks). length m.free) c.self.view_is
