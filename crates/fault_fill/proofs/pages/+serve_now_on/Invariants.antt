use Rattle.page_model.specs.Rank.{rank}
use Rattle.fault_fill.proofs.pages.+serve_now_on.Given as goal

abbrev pub decreases-serve_now_on : goal.decreases-serve_now_on
decreases-serve_now_on g l = rank l.m.now.kernel.place l.locked.now l.page
