use Rattle.run_units.proofs.Swapping.{line_asks, line_comes, turn_comes, note_made}
use Rattle.run_units.proofs.laws.marks_come.Goals as goal

pub returns-clause-asks : goal.returns-clause-asks
returns-clause-asks c = line_asks

pub returns-clause-lines : goal.returns-clause-lines
returns-clause-lines c = line_comes

pub returns-clause-turns : goal.returns-clause-turns
returns-clause-turns c = turn_comes

pub returns-clause-notes : goal.returns-clause-notes
returns-clause-notes c = note_made
