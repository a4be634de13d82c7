use Rattle.std.proofs.Common.{◌≡◌, ℕ, List, sym, ap, ap₂, subst, length, ◌∙◌}
use Rattle.resource_map.specs.declared.Extent.{Extent}
use Rattle.resource_map.specs.Blocks.{Blocks}
use Rattle.resource_map.specs.Extents.{InOrder, free_blocks}
use Rattle.resource_map.proofs.BlockLaws.{length-free_blocks}
use Rattle.resource_map.proofs.ResourceMap.extents.Goals as goal

size_is : (c : goal.After-deref) → c.self.inside.size ≡ length c.args.self.now.free
size_is c =
    sym (length-free_blocks c.self.inside.size c.self.inside.extents.items) ∙
    ap (λ (m : Blocks). length m.free) c.self.view_is

pub returns-clause-blocks : goal.returns-clause-blocks
returns-clause-blocks c =
    ap₂ (λ (n : ℕ) (es : List Extent). free_blocks n es) (sym (size_is c)) c.deref.ensures.value ∙
    ap (λ (m : Blocks). m.free) c.self.view_is

pub returns-clause-order : goal.returns-clause-order
returns-clause-order c =
    subst (λ (es : List Extent). InOrder 0 es (length c.args.self.now.free)) (sym c.deref.ensures.value)
    (subst (λ (n : ℕ). InOrder 0 c.self.inside.extents.items n) (size_is c) c.self.invariant.order)
