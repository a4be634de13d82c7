use Rattle.paged_laws.proofs.Traces.{trace_flat, trace_few}
use Rattle.paged_laws.proofs.trace_laws.traces_are_flat.Goals as goal

pub returns-clause-flat : goal.returns-clause-flat
returns-clause-flat c = trace_flat

pub returns-clause-few : goal.returns-clause-few
returns-clause-few c = trace_few
