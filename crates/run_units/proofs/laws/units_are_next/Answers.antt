use Rattle.run_units.proofs.Units.{one_made, both_lead, leads_at}
use Rattle.run_units.proofs.laws.units_are_next.Goals as goal

pub returns-clause-one : goal.returns-clause-one
returns-clause-one c = one_made

pub returns-clause-parts : goal.returns-clause-parts
returns-clause-parts c = both_lead

pub returns-clause-stands : goal.returns-clause-stands
returns-clause-stands c = leads_at
