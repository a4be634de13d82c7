use Rattle.std.proofs.Common.{◌≡◌, ℕ, ◌+◌, true, List, ◌++◌, [], ◌∷◌, sym, subst, arith}
use Rattle.resource_map.specs.declared.Extent.{Extent}
use Rattle.resource_map.specs.Extents.{InOrder, covers}
use Rattle.resource_map.proofs.ExtentLaws.{order_push, covers_push}
use Rattle.resource_map.proofs.whole_units.Goals as goal

pub loop-start-preserved : goal.loop-start-preserved
loop-start-preserved c =
    let es = c.loop-start.extents.items in
    let m = c.loop-start.start in
    let n = c.min-length.result in
    let items : c.push.new.self.items ≡ es ++ record { start = m; length = n } ∷ [] = c.in_ok-push.ensures.items in
    let whole = c.loop-start.invariant.whole c.loop-start-test.true in
    let least = c.min-length.ensures in
    record {
      order = subst (λ (xs : List Extent). InOrder 0 xs (m + n)) (sym items) (order_push 0 es m n c.loop-start.invariant.order whole (omega arith) (omega arith));
      all = λ b lt. subst (λ (xs : List Extent). covers xs b ≡ true) (sym items) (covers_push es m n c.loop-start.invariant.all b lt);
      within = omega arith;
      whole = λ lt. omega arith;
    }

pub returns-clause-order : goal.returns-clause-order
returns-clause-order c =
    subst (λ (m : ℕ). InOrder 0 c.loop-start.extents.items m) (let w = c.loop-start.invariant.within in omega arith) c.loop-start.invariant.order
