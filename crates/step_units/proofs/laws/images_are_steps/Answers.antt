use Rattle.step_units.proofs.PlainCalls.{refused_made, refused_stops}
use Rattle.step_units.proofs.Executing.{exec_made, exec_stops}
use Rattle.step_units.proofs.laws.images_are_steps.Goals as goal

pub returns-clause-exec : goal.returns-clause-exec
returns-clause-exec c A s old new holds image behind pid now p x effect called on makes h = exec_made A s old holds image pid now p x effect on makes new behind called refused_made h

pub returns-clause-exec_stops : goal.returns-clause-exec_stops
returns-clause-exec_stops c A s old new holds image behind pid now p x effect stop on makes h = exec_stops A s old holds image pid now p x effect on makes new behind stop refused_stops h
