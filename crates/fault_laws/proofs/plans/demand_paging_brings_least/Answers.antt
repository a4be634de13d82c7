use Rattle.fault_laws.proofs.Demand.{memory_planned, memory_least}
use Rattle.fault_laws.proofs.plans.demand_paging_brings_least.Goals as goal

pub returns-clause-plan : goal.returns-clause-plan
returns-clause-plan c = memory_planned

pub returns-clause-least : goal.returns-clause-least
returns-clause-least c = memory_least
