use Rattle.std.proofs.Common.{◌≡◌, ◌<◌, ◌+◌, ℕ, List, get_or, length, take, ap, refl, arith, add-one}
use Rattle.std.proofs.lemmas.List.{get_or-take, length-take}
use Rattle.stack_dist.specs.Tree.{total}
use Rattle.stack_dist.proofs.LruLaws.{total-take-more}
use Rattle.stack_dist.proofs.TreeLaws.{total-take-le}
use Rattle.stack_dist.proofs.hits_above.Goals as goal

pub loop-count-init : goal.loop-count-init
unfolding total
loop-count-init c = refl

-- the hits with those at one depth more
more : (counts : List ℕ) (n i hits : ℕ) → i < length (take n counts) → hits ≡ total (take i counts)
    → hits + get_or (take n counts) i 0 ≡ total (take (i + 1) counts)
more counts n i hits within so_far =
    let few = length-take n counts in
    let item = get_or-take n counts i 0 (omega arith) in
    let one = total-take-more counts i in
    let next = ap (λ (k : ℕ). total (take k counts)) (add-one i) in
    omega arith

pub overflow_add-hits : goal.overflow_add-hits
overflow_add-hits c =
    let next = more c.args.counts.now c.min.result c.loop-count.count-index c.loop-count.hits c.loop-count-test.true c.loop-count.invariant in
    let most = total-take-le (c.loop-count.count-index + 1) c.args.counts.now in
    omega (arith, c.requires)

pub loop-count-preserved : goal.loop-count-preserved
loop-count-preserved c = more c.args.counts.now c.min.result c.loop-count.count-index c.loop-count.hits c.loop-count-test.true c.loop-count.invariant
