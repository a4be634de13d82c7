use Rattle.std.proofs.Common.{List, ℕ, length, ap, arith}
use Rattle.stack_dist.specs.Tree.{total}
use Rattle.stack_dist.specs.Lru.{distinct_pages}
use Rattle.stack_dist.proofs.LruLaws.{hits_fit, same_past}
use Rattle.stack_dist.proofs.curve.Goals as goal

pub hits_to_faults-requires : goal.hits_to_faults-requires
hits_to_faults-requires c =
    let fit = hits_fit c.in_ok-counts.counts.items c.args.refs.now (c.in_ok-counts.ensures.hits (length c.in_ok-counts.counts.items)) in
    let same = ap (λ (xs : List ℕ). total xs) c.deref_mut.ensures.value in
    omega arith

pub returns-clause-past : goal.returns-clause-past
returns-clause-past c = λ n past.
    same_past c.in_ok-counts.counts.items c.args.refs.now n (distinct_pages c.args.refs.now)
    (omega (arith, c.in_ok-counts.ensures.depths, c.in_ok-counts.counts.ok)) past c.in_ok-counts.ensures.hits
