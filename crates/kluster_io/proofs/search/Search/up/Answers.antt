use Rattle.flat_state.specs.PageNames.{number_of}
use Rattle.kluster_io.specs.Joining.{joins}
use Rattle.kluster_io.proofs.Counts.{up_is}
use Rattle.kluster_io.proofs.search.Search.up.Goals as goal

pub returns : goal.returns
returns c = λ p h.
    up_is (joins p c.args.self.now.kin c.args.self.now.page) (number_of c.args.self.now.page) c.number_of.result c.args.most c.above.result
    c.number_of.ensures (c.above.ensures.count p h)
