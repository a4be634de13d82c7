use Rattle.paged_laws.proofs.Traces.{trace_placed, trace_owned}
use Rattle.paged_laws.proofs.trace_laws.traces_are_owned.Goals as goal

pub returns-clause-stands : goal.returns-clause-stands
returns-clause-stands c = trace_placed

pub returns-clause-owner : goal.returns-clause-owner
returns-clause-owner c = trace_owned
