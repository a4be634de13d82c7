use Rattle.std.proofs.Common.{ℕ, Bool, List, Option, None, get_or, ap}
use Rattle.policy_faults.proofs.Calls.{none_marked, none_there}
use Rattle.policy_faults.proofs.page_ring.PageRing.new.Goals as goal

pub invariant_of-result : goal.invariant_of-result
invariant_of-result c =
    none_marked (λ (q : ℕ). get_or c.new-2.result.items q None) c.new.result.items c.new.ensures.items
    (λ q. ap (λ (ms : List (Option Bool)). get_or ms q None) c.new-2.ensures.items)

pub returns : goal.returns
returns c = none_there (λ (q : ℕ). get_or c.new-2.result.items q None) c.new.result.items c.new.ensures.items
