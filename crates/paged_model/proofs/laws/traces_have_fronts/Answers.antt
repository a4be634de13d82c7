use Rattle.paged_model.proofs.Lines.{front_trace, trace_on}
use Rattle.paged_model.proofs.laws.traces_have_fronts.Goals as goal

pub returns-clause-front : goal.returns-clause-front
returns-clause-front c = front_trace

pub returns-clause-on : goal.returns-clause-on
returns-clause-on c = trace_on
