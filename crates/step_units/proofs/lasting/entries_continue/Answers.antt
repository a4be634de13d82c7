use Rattle.step_units.proofs.Entries.{entry_continues, found_continues, note_continues, ran_continues, room_continues, writes_continue, pass_continues}
use Rattle.step_units.proofs.lasting.entries_continue.Goals as goal

pub returns-clause-entries : goal.returns-clause-entries
returns-clause-entries c = entry_continues

pub returns-clause-found : goal.returns-clause-found
returns-clause-found c = found_continues

pub returns-clause-notes : goal.returns-clause-notes
returns-clause-notes c = note_continues

pub returns-clause-ran : goal.returns-clause-ran
returns-clause-ran c = ran_continues

pub returns-clause-room : goal.returns-clause-room
returns-clause-room c = room_continues

pub returns-clause-writes : goal.returns-clause-writes
returns-clause-writes c = writes_continue

pub returns-clause-passes : goal.returns-clause-passes
returns-clause-passes c = pass_continues
