use Rattle.std.proofs.Common.{List, ℕ, length, ap, arith}
use Rattle.stack_dist.specs.Tree.{total}
use Rattle.stack_dist.proofs.LruLaws.{hits_fit}
use Rattle.stack_dist.proofs.lru_faults.Goals as goal

pub hits_above-hits-requires : goal.hits_above-hits-requires
hits_above-hits-requires c =
    let fit = hits_fit c.in_ok-counts.counts.items c.args.refs.now (c.in_ok-counts.ensures.hits (length c.in_ok-counts.counts.items)) in
    let same = ap (λ (xs : List ℕ). total xs) c.as_slice.ensures.value in
    omega (arith, c.requires)
