use Rattle.page_opt.specs.Held.{Stands}
use Rattle.page_opt.proofs.least_faults_by_uses.Given as goal

abbrev pub invariant-loop-i : goal.invariant-loop-i
invariant-loop-i l = record {
  stands : Stands l.refs l.frames l.i l.resident l.plan.victims.items l.plan.faults;
}
