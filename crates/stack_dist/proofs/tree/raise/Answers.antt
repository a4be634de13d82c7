use Rattle.std.proofs.Common.{◌≡◌, ℕ, ◌+◌, ◌/◌, arith, take, drop, get_or, set, subst}
use Rattle.stack_dist.specs.Tree.{total, raised}
use Rattle.stack_dist.proofs.TreeLaws.{Raising, Counting, total-take-le, raised_fits, raising_starts, raising_fits, raising_more, sums_lack_none, counting_starts, counting_more, counting_fits, counting_ends}
use Rattle.stack_dist.proofs.tree.raise.Goals as goal

pub overflow_add-sums : goal.overflow_add-sums
overflow_add-sums c = let h = raised_fits c.args.size c.args.at c.args.sums.now c.requires.fits in omega arith

pub loop-node-init : goal.loop-node-init
loop-node-init c =
    let sums = c.args.sums.now in
    let leaf = c.args.size + c.args.at in
    let whole = total (take c.args.at (drop c.args.size sums)) in
    let new = set sums leaf (get_or sums leaf 0 + 1) in
    let some = c.requires.some in
    let none : 0 + c.if_odd-before.result ≡ c.if_odd-before.result = omega arith in
    record {
      raising = raising_starts c.args.size c.args.at sums c.requires.room c.requires.within c.requires.sums c.requires.fits;
      counting =
          subst (λ (n : ℕ). Counting (leaf / 2) n whole sums new) none
          (counting_more c.args.size leaf 0 whole c.if_odd-before.result (get_or sums leaf 0 + 1) sums sums c.requires.sums (omega arith) (omega arith)
          (counting_starts c.args.size c.args.at sums c.requires.power c.requires.within) c.if_odd-before.ensures);
      some = omega arith;
    }

pub overflow_add-before : goal.overflow_add-before
overflow_add-before c =
    let sums = c.args.sums.now in
    let inner = c.loop-node.invariant.raising.inner in
    let le =
    counting_fits c.args.size c.loop-node.node c.loop-node.before (total (take c.args.at (drop c.args.size sums))) c.if_odd-before-in-loop-node.result sums
    c.loop-node.sums c.requires.sums c.loop-node-test.true (omega arith) c.loop-node.invariant.counting c.if_odd-before-in-loop-node.ensures
    in
    let part = total-take-le c.args.at (drop c.args.size sums) in
    let fits = c.requires.fits in
    omega arith

pub overflow_add-sums-in-loop-node : goal.overflow_add-sums-in-loop-node
overflow_add-sums-in-loop-node c =
    let h =
    raising_fits c.args.size c.loop-node.node (raised (drop c.args.size c.args.sums.now) c.args.at) c.loop-node.sums c.loop-node.invariant.raising
    (let test = c.loop-node-test.true in omega arith)
    in
    omega arith

pub loop-node-preserved : goal.loop-node-preserved
loop-node-preserved c =
    let sums = c.args.sums.now in
    let inner = c.loop-node.invariant.raising.inner in
    let test = c.loop-node-test.true in
    record {
      raising =
          raising_more c.args.size c.loop-node.node (raised (drop c.args.size sums) c.args.at) c.loop-node.sums c.loop-node.invariant.raising
          (omega arith);
      counting =
          counting_more c.args.size c.loop-node.node c.loop-node.before (total (take c.args.at (drop c.args.size sums))) c.if_odd-before-in-loop-node.result
          (get_or c.loop-node.sums c.loop-node.node 0 + 1) sums c.loop-node.sums c.requires.sums test (omega arith) c.loop-node.invariant.counting
          c.if_odd-before-in-loop-node.ensures;
      some = omega arith;
    }

pub returns-clause-sums : goal.returns-clause-sums
returns-clause-sums c =
    let counts = raised (drop c.args.size c.args.sums.now) c.args.at in
    let some = c.loop-node.invariant.some in
    let test = c.loop-node-test.false in
    let top : c.loop-node.node ≡ 1 = omega arith in
    let at_top = subst (λ (n : ℕ). Raising c.args.size n counts c.loop-node.sums) top c.loop-node.invariant.raising in
    sums_lack_none c.args.size (set c.loop-node.sums 1 (get_or c.loop-node.sums 1 0 + 1))
    (raising_more c.args.size 1 counts c.loop-node.sums at_top (omega arith)).lacks

pub returns-clause-before : goal.returns-clause-before
returns-clause-before c =
    counting_ends c.loop-node.node c.loop-node.before (total (take c.args.at (drop c.args.size c.args.sums.now))) c.args.sums.now c.loop-node.sums
    c.loop-node-test.false c.loop-node.invariant.counting
