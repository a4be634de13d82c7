use Rattle.std.proofs.Common.{sym, ◌∙◌, subst}
use Rattle.machine_state.specs.Calls.{IsNote}
use Rattle.repage_check.proofs.Notings.{noted}
use Rattle.repage_check.proofs.noting.judge_note.Goals as goal

pub returns-in-Some-clause-judged : goal.returns-in-Some-clause-judged
returns-in-Some-clause-judged c = λ A s t. sym c.in-Some.is ∙ c.note_reason.ensures A s t

pub note-requires-clause-note : goal.note-requires-clause-note
note-requires-clause-note c = subst IsNote (sym c.note_of.ensures) (noted c.args.u.now c.requires.note)
