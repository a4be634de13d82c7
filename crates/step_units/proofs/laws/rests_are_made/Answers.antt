use Rattle.step_units.proofs.Telling.{beginning_last}
use Rattle.step_units.proofs.Resting.{sent_rests, refused_rests, rest_made, rest_stops}
use Rattle.step_units.proofs.laws.rests_are_made.Goals as goal

pub returns-clause-begun : goal.returns-clause-begun
returns-clause-begun c = beginning_last

pub returns-clause-sent : goal.returns-clause-sent
returns-clause-sent c = sent_rests

pub returns-clause-refused : goal.returns-clause-refused
returns-clause-refused c = refused_rests

pub returns-clause-is : goal.returns-clause-is
returns-clause-is c = rest_made

pub returns-clause-stops : goal.returns-clause-stops
returns-clause-stops c = rest_stops
