use Rattle.table_steps.proofs.launching.+launch_all.Given as goal

abbrev pub decreases-launch_all : goal.decreases-launch_all
decreases-launch_all l = l.n
