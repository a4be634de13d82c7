use Rattle.std.proofs.Common.{◌≡◌, ℕ, List, length, drop, ap, sym, ◌∙◌, subst, arith}
use Rattle.std.specs.Vec.{with_items}
use Rattle.std.proofs.lemmas.List.{with_items_is}
use Rattle.stack_dist.specs.Tree.{total, AreSums, raised}
use Rattle.stack_dist.proofs.TreeLaws.{total_raised}
use Rattle.stack_dist.proofs.tree.CountTree.raise.Goals as goal

items : (c : goal.After-self-1) → (with_items c.self.inside.sums c.raise.new.sums).items ≡ c.raise.new.sums
items c = with_items_is c.self.inside.sums c.raise.new.sums (c.raise.auto.sums ∙ c.deref_mut.ensures.len)

pub invariant_of-self : goal.invariant_of-self
invariant_of-self c =
    let old = ap (λ (xs : List ℕ). drop c.self.inside.size xs) c.deref_mut.ensures.value ∙ c.self.view_is in
    record {
      power = c.self.invariant.power;
      some = c.self.invariant.some;
      room = ap (λ (xs : List ℕ). length xs) (items c) ∙ c.raise.auto.sums ∙ ap (λ (xs : List ℕ). length xs) c.deref_mut.ensures.value ∙ c.self.invariant.room;
      sums = subst (λ (xs : List ℕ). AreSums c.self.inside.size xs) (sym (items c)) c.raise.ensures.sums;
      fits =
          let now = ap (λ (xs : List ℕ). total (drop c.self.inside.size xs)) (items c) ∙ ap (λ (xs : List ℕ). total xs) c.raise.ensures.counts in
          let more = ap (λ (xs : List ℕ). total (raised xs c.args.at)) old in
          let by = total_raised c.args.self.now c.args.at c.requires.within in
          let before = ap (λ (xs : List ℕ). total xs) c.self.view_is in
          omega arith;
    }
