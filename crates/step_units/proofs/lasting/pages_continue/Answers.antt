use Rattle.step_units.proofs.PagesContinue.{access_continues, access_now_continues}
use Rattle.step_units.proofs.lasting.pages_continue.Goals as goal

pub returns-clause-touched : goal.returns-clause-touched
returns-clause-touched c = access_continues

pub returns-clause-touched_now : goal.returns-clause-touched_now
returns-clause-touched_now c = access_now_continues
