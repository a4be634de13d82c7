use Rattle.step_units.proofs.Beginning.{line_begins, line_stops}
use Rattle.step_units.proofs.lines.lines_begin.Goals as goal

pub returns-clause-is : goal.returns-clause-is
returns-clause-is c = line_begins

pub returns-clause-stops : goal.returns-clause-stops
returns-clause-stops c = line_stops
