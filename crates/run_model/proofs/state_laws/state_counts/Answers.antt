use Rattle.run_model.proofs.After.{after_count, units_count, units_journal, state_count}
use Rattle.run_model.proofs.state_laws.state_counts.Goals as goal

pub returns-clause-unit : goal.returns-clause-unit
returns-clause-unit c = after_count

pub returns-clause-units : goal.returns-clause-units
returns-clause-units c = units_count

pub returns-clause-journal : goal.returns-clause-journal
returns-clause-journal c = state_count

pub returns-clause-joined : goal.returns-clause-joined
returns-clause-joined c = units_journal
