use Rattle.step_units.proofs.Finding.{interrupt_waits, may_come, put_out_in}
use Rattle.step_units.proofs.halfway.marks_find_theirs.Goals as goal

pub returns-clause-interrupt : goal.returns-clause-interrupt
returns-clause-interrupt c = interrupt_waits

pub returns-clause-brought_in : goal.returns-clause-brought_in
returns-clause-brought_in c = may_come

pub returns-clause-put_out : goal.returns-clause-put_out
returns-clause-put_out c = put_out_in
