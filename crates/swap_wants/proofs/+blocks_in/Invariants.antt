use Rattle.swap_wants.proofs.+blocks_in.Given as goal

abbrev pub decreases-blocks_in : goal.decreases-blocks_in
decreases-blocks_in l = l.chunks
