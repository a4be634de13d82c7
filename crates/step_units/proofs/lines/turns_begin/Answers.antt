use Rattle.step_units.proofs.Beginning.{turn_stops}
use Rattle.step_units.proofs.Residing.{closing_stays_in}
use Rattle.step_units.proofs.Turning.{turn_begins, comes_in, coming_in_stops}
use Rattle.step_units.proofs.lines.turns_begin.Goals as goal

pub returns-clause-is : goal.returns-clause-is
returns-clause-is c = turn_begins

pub returns-clause-stops : goal.returns-clause-stops
returns-clause-stops c = turn_stops

pub returns-clause-comes_in : goal.returns-clause-comes_in
returns-clause-comes_in c = comes_in

pub returns-clause-coming_in_stops : goal.returns-clause-coming_in_stops
returns-clause-coming_in_stops c = coming_in_stops

pub returns-clause-resident : goal.returns-clause-resident
returns-clause-resident c = closing_stays_in
