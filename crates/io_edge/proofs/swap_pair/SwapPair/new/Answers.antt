use Rattle.io_edge.proofs.Stripes.{largest_swap}
use Rattle.io_edge.proofs.swap_pair.SwapPair.new.Goals as goal

pub returns-clause-blocks : goal.returns-clause-blocks
returns-clause-blocks g c = largest_swap (g.D.SwapDev.blocks c.args.zero.now) (g.E.SwapDev.blocks c.args.one.now)
