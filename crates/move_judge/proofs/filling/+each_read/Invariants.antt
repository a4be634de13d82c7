use Rattle.move_judge.proofs.filling.+each_read.Given as goal

abbrev pub decreases-each_read : goal.decreases-each_read
decreases-each_read l = l.n
