use Rattle.std.proofs.Common.{ℕ, ◌-◌, ◌<◌, ◌≤◌, Bool, true, List, length, get_or, sym, ap, ap₂, ◌∙◌, subst, arith}
use Rattle.resource_map.specs.declared.Extent.{Extent}
use Rattle.resource_map.specs.Blocks.{Blocks, is_free_block, marked}
use Rattle.resource_map.specs.Extents.{InOrder, free_blocks}
use Rattle.resource_map.proofs.BlockLaws.{length-free_blocks, is_free-free_blocks}
use Rattle.resource_map.proofs.ExtentLaws.{lies_at}
use Rattle.resource_map.proofs.FreeLaws.{Gap, put_in_order, put_in_is_marked}
use Rattle.resource_map.proofs.ResourceMap.free.Goals as goal

abbrev blocks_with : List Bool → ℕ → Blocks
blocks_with free spare = record { free = free; spare = spare }

abbrev extent : ℕ → ℕ → Extent
extent start n = record { start = start; length = n }

pub give_back-requires-clause-small : goal.give_back-requires-clause-small
give_back-requires-clause-small c = λ k d lt.
    let l = lies_at 0 c.self.inside.extents.items c.self.inside.size k d c.self.invariant.order lt in
    let w = l.within in omega arith

pub give_back-requires-clause-small_too : goal.give_back-requires-clause-small_too
give_back-requires-clause-small_too c =
    let w = c.requires.within in
    let s = length-free_blocks c.self.inside.size c.self.inside.extents.items in
    let v = ap (λ (m : Blocks). length m.free) c.self.view_is in
    omega arith

gap : (c : goal.After-self-1) → Gap c.self.inside.extents.items c.self.inside.size c.first_above-at.result c.args.start c.args.n
gap c =
    let es = c.self.inside.extents.items in
    let w = c.requires.within in
    let s = length-free_blocks c.self.inside.size c.self.inside.extents.items in
    let v = ap (λ (m : Blocks). length m.free) c.self.view_is in
    record {
      order = c.self.invariant.order;
      place = let p = c.first_above-at.ensures.within in let l = c.deref.ensures.len in let e = ap (λ (xs : List Extent). length xs) c.deref.ensures.value in omega arith;
      below = λ k d lt. subst (λ (xs : List Extent). (get_or xs k d).start ≤ c.args.start) c.deref.ensures.value (c.first_above-at.ensures.below k d lt);
      above = λ d lt.
          let e = ap (λ (xs : List Extent). length xs) c.deref.ensures.value in
          subst (λ (xs : List Extent). c.args.start < (get_or xs c.first_above-at.result d).start) c.deref.ensures.value (c.first_above-at.ensures.above d (omega arith));
      some = c.requires.at_least_one;
      within = omega arith;
      one_unit = c.requires.one_unit;
      out = λ b low high.
          sym (is_free-free_blocks c.self.inside.size es b (omega arith)) ∙
          ap (λ (m : Blocks). is_free_block m.free b) c.self.view_is ∙
          c.requires.not_free b low high;
    }

pub invariant_of-self : goal.invariant_of-self
invariant_of-self c = record {
  order =
      subst (λ (es : List Extent). InOrder 0 es c.self.inside.size) (sym c.give_back.ensures.put_in)
      (put_in_order c.self.inside.extents.items c.self.inside.size c.first_above-at.result c.args.start c.args.n (gap c));
  room =
      let v = ap (λ (m : Blocks). m.spare) c.self.view_is in
      let s = c.requires.spare in
      omega (arith, c.give_back.ensures.len, c.give_back.ensures.capacity, c.self.invariant.room);
}

pub returns : goal.returns
returns c =
    ap₂ blocks_with
    (ap (free_blocks c.self.inside.size) c.give_back.ensures.put_in ∙
    put_in_is_marked c.self.inside.extents.items c.self.inside.size c.first_above-at.result c.args.start c.args.n (gap c) ∙
    ap (λ (m : Blocks). marked m.free c.args.start c.args.n true) c.self.view_is)
    (ap (λ (m : Blocks). m.spare - 1) c.self.view_is)
