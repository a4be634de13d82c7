use Rattle.kluster_io.proofs.search.Search.+above.Given as goal

abbrev pub decreases-above : goal.decreases-above
decreases-above l = l.room
