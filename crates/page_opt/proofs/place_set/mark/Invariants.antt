use Rattle.page_opt.proofs.Summaries.{Walking}
use Rattle.page_opt.proofs.place_set.mark.Given as goal

abbrev pub invariant-loop-node : goal.invariant-loop-node
invariant-loop-node l = record { walking : Walking l.first l.leaf 1 l.fn.words l.node l.words }

abbrev pub decreases-loop-node : goal.decreases-loop-node
decreases-loop-node l = l.node
