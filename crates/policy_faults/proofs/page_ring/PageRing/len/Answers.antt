use Rattle.std.proofs.Common.{ℕ, get_or, None, arith}
use Rattle.policy_faults.proofs.Calls.{size_told}
use Rattle.policy_faults.proofs.page_ring.PageRing.len.Goals as goal

pub returns : goal.returns
returns c =
    let size = size_told (λ (q : ℕ). get_or c.self.inside.marks.items q None) c.self.inside.pages.items c.args.self.now c.self.view_is in
    omega (arith, c.self.inside.pages.ok.0)
