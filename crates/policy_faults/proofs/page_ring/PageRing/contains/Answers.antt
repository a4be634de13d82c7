use Rattle.std.proofs.Common.{ℕ, Bool, Option, None, get_or, ap, ◌∙◌}
use Rattle.std.specs.Prelude.{is_some}
use Rattle.policy_faults.proofs.Calls.{resident_told}
use Rattle.policy_faults.proofs.Marking.{mark_read}
use Rattle.policy_faults.proofs.page_ring.PageRing.contains.Goals as goal

pub returns : goal.returns
returns c =
    c.is_some.ensures
    ∙ ap (λ (o : Option Bool). is_some o)
    (mark_read c.deref.result.now c.self.inside.marks.items c.args.page c.mark_of.result c.mark_of.ensures c.deref.ensures.value)
    ∙ resident_told (λ (q : ℕ). get_or c.self.inside.marks.items q None) c.self.inside.pages.items c.args.self.now c.self.view_is c.args.page c.self.invariant
