use Rattle.flat_state.specs.PageNames.{number_of}
use Rattle.kluster_io.specs.Joining.{joins}
use Rattle.kluster_io.proofs.Counts.{both_is}
use Rattle.kluster_io.proofs.search.Search.both.Goals as goal

pub returns : goal.returns
returns c = λ p h.
    both_is (joins p c.args.self.now.kin c.args.self.now.page) (number_of c.args.self.now.page) c.number_of-v.result c.args.most c.above-above.result c.below-below.result
    c.number_of-v.ensures (c.above-above.ensures.count p h) (c.below-below.ensures.count p h)
