use Rattle.step_units.proofs.PlainCalls.{refused_made, refused_stops}
use Rattle.step_units.proofs.Ending.{ended, end_stops, exit_made, exit_stops}
use Rattle.step_units.proofs.Signals.{signal_ends, no_call_ends}
use Rattle.step_units.proofs.laws.ends_are_steps.Goals as goal

pub returns-clause-signals : goal.returns-clause-signals
returns-clause-signals c = signal_ends

pub returns-clause-no_call : goal.returns-clause-no_call
returns-clause-no_call c = no_call_ends

pub returns-clause-end : goal.returns-clause-end
returns-clause-end c A s old new holds image behind pid now p x status m r ends h = ended A s old holds image pid now p x status m r ends new behind h

pub returns-clause-end_stops : goal.returns-clause-end_stops
returns-clause-end_stops c A s old new holds image behind pid now p x status stop m r ends h = end_stops A s old holds image pid now p x status m r ends new behind stop h

pub returns-clause-exit : goal.returns-clause-exit
returns-clause-exit c A s old new holds image behind pid now p x effect called on makes h = exit_made A s old new holds image behind pid now p x effect on makes called refused_made h

pub returns-clause-exit_stops : goal.returns-clause-exit_stops
returns-clause-exit_stops c A s old new holds image behind pid now p x effect stop on makes h = exit_stops A s old new holds image behind pid now p x effect on makes stop refused_stops h
