use Rattle.std.proofs.Common.{sym, ◌∙◌}
use Rattle.kluster_io.specs.Joining.{joins}
use Rattle.kluster_io.proofs.Counts.{above_more}
use Rattle.kluster_io.proofs.search.Search.+above.Goals as goal

pub returns-clause-count : goal.returns-clause-count
returns-clause-count t c = λ p h.
    above_more (joins p c.args.self.now.kin c.args.self.now.page) c.args.v c.args.room c.above.result c.if-room-eq0.false
    (sym (c.passes.ensures.joins p h) ∙ c.if-not-passes.false) (c.above.ensures.count p h)
