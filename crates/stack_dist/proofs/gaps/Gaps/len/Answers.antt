use Rattle.std.proofs.Common.{ℕ, List, length, ap, arith}
use Rattle.stack_dist.proofs.GapLaws.{length-all_bits}
use Rattle.stack_dist.proofs.gaps.Gaps.len.Goals as goal

pub returns : goal.returns
returns c =
    let all = length-all_bits c.self.inside.words.items in
    let same = ap (λ (xs : List ℕ). length xs) c.self.view_is in
    let ok = c.self.inside.words.ok in
    omega (arith, c.len.ensures)
