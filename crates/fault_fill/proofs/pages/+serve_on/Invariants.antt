use Rattle.fault_fill.proofs.Serving.{near}
use Rattle.fault_fill.proofs.pages.+serve_on.Given as goal

abbrev pub decreases-serve_on : goal.decreases-serve_on
decreases-serve_on g l = near l.m.now.kernel.place l.page
