use Rattle.step_units.proofs.PlainCalls.{wait_made, getpid_made, write_made, refused_made, plain_stops, refused_stops, write_stops}
use Rattle.step_units.proofs.laws.calls_are_steps.Goals as goal

pub returns-clause-wait : goal.returns-clause-wait
returns-clause-wait c = wait_made

pub returns-clause-getpid : goal.returns-clause-getpid
returns-clause-getpid c = getpid_made

pub returns-clause-write : goal.returns-clause-write
returns-clause-write c = write_made

pub returns-clause-refused : goal.returns-clause-refused
returns-clause-refused c = refused_made

pub returns-clause-plain_stops : goal.returns-clause-plain_stops
returns-clause-plain_stops c = plain_stops

pub returns-clause-refused_stops : goal.returns-clause-refused_stops
returns-clause-refused_stops c = refused_stops

pub returns-clause-write_stops : goal.returns-clause-write_stops
returns-clause-write_stops c = write_stops
