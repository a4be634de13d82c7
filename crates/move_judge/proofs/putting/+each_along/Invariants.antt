use Rattle.move_judge.proofs.putting.+each_along.Given as goal

abbrev pub decreases-each_along : goal.decreases-each_along
decreases-each_along l = l.n
