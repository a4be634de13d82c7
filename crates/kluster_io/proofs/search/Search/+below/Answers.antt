use Rattle.std.proofs.Common.{sym, ◌∙◌}
use Rattle.kluster_io.specs.Joining.{joins}
use Rattle.kluster_io.proofs.Counts.{below_more}
use Rattle.kluster_io.proofs.search.Search.+below.Goals as goal

pub returns-clause-count : goal.returns-clause-count
returns-clause-count t c = λ p h.
    below_more (joins p c.args.self.now.kin c.args.self.now.page) c.args.v c.args.room c.below.result c.if-v-eq0.false c.if-room-eq0.false
    (sym (c.passes.ensures.joins p h) ∙ c.if-not-passes.false) (c.below.ensures.count p h)
