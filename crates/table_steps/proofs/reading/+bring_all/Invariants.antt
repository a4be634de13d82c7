use Rattle.table_steps.proofs.reading.+bring_all.Given as goal

abbrev pub decreases-bring_all : goal.decreases-bring_all
decreases-bring_all l = l.n
