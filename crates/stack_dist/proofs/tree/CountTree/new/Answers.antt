use Rattle.std.proofs.Common.{◌≡◌, ℕ, ◌+◌, List, length, replicate, ap, sym, ◌∙◌, subst, arith}
use Rattle.std.proofs.lemmas.List.{length-replicate}
use Rattle.stack_dist.specs.Tree.{total, AreSums}
use Rattle.stack_dist.proofs.TreeLaws.{double_power, zeros_are_sums, zero_counts, total-replicate}
use Rattle.stack_dist.proofs.tree.CountTree.new.Goals as goal

pub loop-size-preserved : goal.loop-size-preserved
loop-size-preserved c = record {
  power = double_power c.loop-size.size c.loop-size.invariant.power;
  some = let s = c.loop-size.invariant.some in omega arith;
  small = let t = c.loop-size-test.true in let l = c.requires in omega arith;
}

zeros : (c : goal.In_ok-sums) → c.in_ok-sums.sums.items ≡ replicate (c.loop-size.size + c.loop-size.size) 0
zeros c = c.in_ok-sums.ensures.items_if_clones_equal (λ y same. same)

pub invariant_of-result : goal.invariant_of-result
invariant_of-result c = record {
  power = c.loop-size.invariant.power;
  some = c.loop-size.invariant.some;
  room = ap (λ (xs : List ℕ). length xs) (zeros c) ∙ length-replicate (c.loop-size.size + c.loop-size.size) 0;
  sums = subst (λ (xs : List ℕ). AreSums c.loop-size.size xs) (sym (zeros c)) (zeros_are_sums c.loop-size.size (c.loop-size.size + c.loop-size.size));
  fits = let none = ap (λ (xs : List ℕ). total xs) (zero_counts c.loop-size.size c.in_ok-sums.sums.items (zeros c)) ∙ total-replicate c.loop-size.size in omega arith;
}

pub returns : goal.returns
returns c = record {
  size = c.loop-size.size;
  enough = c.loop-size-test.false;
  small = let s = c.loop-size.invariant.small in omega arith;
  zeros = zero_counts c.loop-size.size c.in_ok-sums.sums.items (zeros c);
}
