use Rattle.std.proofs.Common.{sym, ◌∙◌}
use Rattle.page_model.specs.Placement.{is_dirty}
use Rattle.paged_model.specs.Reasons.{or_reason}
use Rattle.paged_model.specs.Moves.{is_there, if_there, due_first, wrong_length}
use Rattle.paged_model.specs.Leaving.{owner_stays, unseated, put_reason_by}
use Rattle.move_judge.proofs.Chosen.{first_told, then_told, none_due}
use Rattle.move_judge.proofs.putting.put_reason.Goals as goal

pub put_clear-requires-clause-clear : goal.put_clear-requires-clause-clear
put_clear-requires-clause-clear c = none_due c.args.m.now.kernel.place.due (sym c.due_first.ensures ∙ c.in-None.is)

pub returns-in-Some-clause-judged : goal.returns-in-Some-clause-judged
returns-in-Some-clause-judged c = λ F t.
    let p = c.args.m.now.kernel.place in
    let page = c.args.page in
    let rest = if_there (is_there p page) page (or_reason (wrong_length c.args.n) (or_reason (unseated p page) (put_reason_by p page c.args.n (is_dirty p page)))) in
    first_told (due_first p.due) (or_reason (owner_stays F p page) rest) c.in-Some.reason (sym c.due_first.ensures ∙ c.in-Some.is)

pub returns-in-None-clause-judged : goal.returns-in-None-clause-judged
returns-in-None-clause-judged c = λ F t.
    let p = c.args.m.now.kernel.place in
    let page = c.args.page in
    let rest = if_there (is_there p page) page (or_reason (wrong_length c.args.n) (or_reason (unseated p page) (put_reason_by p page c.args.n (is_dirty p page)))) in
    then_told (due_first p.due) (or_reason (owner_stays F p page) rest) c.put_clear.result (sym c.due_first.ensures ∙ c.in-None.is) (c.put_clear.ensures.judged F t)
