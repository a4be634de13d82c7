use Rattle.kluster_io.proofs.search.Search.+below.Given as goal

abbrev pub decreases-below : goal.decreases-below
decreases-below l = l.room
