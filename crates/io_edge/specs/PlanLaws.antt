-- Why calls of a form in memory, one after another, are a row of calls.
use Rattle.std.proofs.Common.{◌∙◌, refl, le_refl, le_trans}
use Rattle.io_edge.specs.declared.count.FaultPlan.{FaultPlan}
use Rattle.io_edge.specs.Plan.{LaterCalls}

-- a row of no calls is a row
pub later_itself : (plan : FaultPlan) → LaterCalls plan plan
later_itself plan = record { calls = le_refl plan.calls; fail = refl }

-- two rows, one after the other, are a row
pub later_through : (a b c : FaultPlan) → LaterCalls a b → LaterCalls b c → LaterCalls a c
later_through a b c first then = record { calls = le_trans first.calls then.calls; fail = then.fail ∙ first.fail }
