use Rattle.run_units.proofs.Acting.{step_begins, step_refused, refused_comes, reply_comes}
use Rattle.run_units.proofs.laws.steps_come.Goals as goal

pub returns-clause-begins : goal.returns-clause-begins
returns-clause-begins c = step_begins

pub returns-clause-refused : goal.returns-clause-refused
returns-clause-refused c = step_refused

pub returns-clause-behind_refusal : goal.returns-clause-behind_refusal
returns-clause-behind_refusal c = refused_comes

pub returns-clause-behind_output : goal.returns-clause-behind_output
returns-clause-behind_output c = reply_comes
