use Rattle.vm_run.proofs.Completing.{loads_complete, told_loads_complete}
use Rattle.vm_run.proofs.laws.sound_loads_complete.Goals as goal

pub returns-clause-all : goal.returns-clause-all
returns-clause-all c = loads_complete

pub returns-clause-told : goal.returns-clause-told
returns-clause-told c = told_loads_complete
