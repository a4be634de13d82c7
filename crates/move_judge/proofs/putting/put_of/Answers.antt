use Rattle.std.proofs.Common.{sym, ◌∙◌}
use Rattle.page_model.specs.Placement.{is_dirty}
use Rattle.paged_model.specs.Reasons.{or_reason}
use Rattle.paged_model.specs.Moves.{is_there, if_there, wrong_length}
use Rattle.paged_model.specs.Leaving.{holder_stays, unseated, put_reason_by}
use Rattle.move_judge.proofs.Chosen.{first_told, then_told}
use Rattle.move_judge.proofs.Puts.{put_can}
use Rattle.move_judge.proofs.putting.put_of.Goals as goal

pub returns-in-Some-clause-judged : goal.returns-in-Some-clause-judged
returns-in-Some-clause-judged c = λ F t.
    let p = c.args.m.now.kernel.place in
    let page = c.args.page in
    let rest = if_there (is_there p page) page (or_reason (wrong_length c.args.n) (or_reason (unseated p page) (put_reason_by p page c.args.n (is_dirty p page)))) in
    first_told (holder_stays F p c.args.sid) rest c.in-Some.reason (sym (c.holder_stays.ensures F t) ∙ c.in-Some.is)

pub returns-in-None-clause-judged : goal.returns-in-None-clause-judged
returns-in-None-clause-judged c = λ F t.
    let p = c.args.m.now.kernel.place in
    let page = c.args.page in
    let rest = if_there (is_there p page) page (or_reason (wrong_length c.args.n) (or_reason (unseated p page) (put_reason_by p page c.args.n (is_dirty p page)))) in
    then_told (holder_stays F p c.args.sid) rest c.put_if.result (sym (c.holder_stays.ensures F t) ∙ c.in-None.is) c.put_if.ensures

pub returns-in-None-clause-can : goal.returns-in-None-clause-can
returns-in-None-clause-can c = λ e.
    put_can c.args.m.now.kernel.place c.args.sid c.args.page c.args.n c.requires.own c.requires.clear (sym c.put_if.ensures ∙ e)
