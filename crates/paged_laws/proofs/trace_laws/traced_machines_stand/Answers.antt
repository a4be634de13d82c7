use Rattle.paged_laws.proofs.PartSteps.{part_stands_at}
use Rattle.paged_laws.proofs.Traces.{line_paged}
use Rattle.paged_laws.proofs.trace_laws.traced_machines_stand.Goals as goal

pub returns-clause-line : goal.returns-clause-line
returns-clause-line c = line_paged

pub returns-clause-machine : goal.returns-clause-machine
returns-clause-machine c = part_stands_at
