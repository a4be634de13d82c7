use Rattle.page_laws.proofs.Runs.Sweeping.{move_freed, move_written}
use Rattle.page_laws.proofs.laws.moves_take_idle_pages.Goals as goal

pub returns-clause-freed : goal.returns-clause-freed
returns-clause-freed c = move_freed

pub returns-clause-written : goal.returns-clause-written
returns-clause-written c = move_written
