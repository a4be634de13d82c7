use Rattle.proc_run.proofs.BegunTold.{begun_told, none_between}
use Rattle.proc_run.proofs.finishing.begun_steps_are_told.Goals as goal

pub returns-clause-told : goal.returns-clause-told
returns-clause-told c = begun_told

pub returns-clause-none : goal.returns-clause-none
returns-clause-none c = none_between
