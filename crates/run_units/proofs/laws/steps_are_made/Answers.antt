use Rattle.economy_laws.proofs.Flows.{runs_next}
use Rattle.run_units.proofs.Stepping.{step_made, plain_made, returning_made, lending_made, ran_made, step_known, call_known, record_registers, none_asked, headers_agree, growth_counts, growth_made}
use Rattle.run_units.proofs.laws.steps_are_made.Goals as goal

pub returns-clause-acts : goal.returns-clause-acts
returns-clause-acts c = runs_next

pub returns-clause-steps : goal.returns-clause-steps
returns-clause-steps c = step_made

pub returns-clause-ran : goal.returns-clause-ran
returns-clause-ran c = ran_made

pub returns-clause-known : goal.returns-clause-known
returns-clause-known c = step_known

pub returns-clause-called : goal.returns-clause-called
returns-clause-called c = call_known

pub returns-clause-registers : goal.returns-clause-registers
returns-clause-registers c = record_registers

pub returns-clause-plain : goal.returns-clause-plain
returns-clause-plain c = plain_made

pub returns-clause-none_asked : goal.returns-clause-none_asked
returns-clause-none_asked c = none_asked

pub returns-clause-headers : goal.returns-clause-headers
returns-clause-headers c = headers_agree

pub returns-clause-counts : goal.returns-clause-counts
returns-clause-counts c = growth_counts

pub returns-clause-returning : goal.returns-clause-returning
returns-clause-returning c = returning_made

pub returns-clause-lending : goal.returns-clause-lending
returns-clause-lending c = lending_made

pub returns-clause-growth : goal.returns-clause-growth
returns-clause-growth c = growth_made
