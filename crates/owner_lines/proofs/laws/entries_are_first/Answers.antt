use Rattle.owner_lines.proofs.First.{first_of_longer, first_of_finished, one_of_length}
use Rattle.owner_lines.proofs.laws.entries_are_first.Goals as goal

pub returns-clause-longer : goal.returns-clause-longer
returns-clause-longer c = first_of_longer

pub returns-clause-finished : goal.returns-clause-finished
returns-clause-finished c = first_of_finished

pub returns-clause-one : goal.returns-clause-one
returns-clause-one c = one_of_length
