use Rattle.std.proofs.Common.{sym, ◌∙◌}
use Rattle.flat_state.specs.Flat.{process_of}
use Rattle.paged_model.specs.Moves.{due_first}
use Rattle.paged_model.specs.Leaving.{out_if}
use Rattle.move_judge.proofs.Chosen.{first_told, then_told, none_due}
use Rattle.move_judge.proofs.leaving.out_reason.Goals as goal

pub out_clear-requires-clause-clear : goal.out_clear-requires-clause-clear
out_clear-requires-clause-clear c = none_due c.args.m.now.kernel.place.due (sym c.due_first.ensures ∙ c.in-None.is)

pub returns-in-Some-clause-judged : goal.returns-in-Some-clause-judged
returns-in-Some-clause-judged c = λ F t.
    let p = c.args.m.now.kernel.place in first_told (due_first p.due) (out_if F p c.args.pid (process_of F c.args.pid)) c.in-Some.reason (sym c.due_first.ensures ∙ c.in-Some.is)

pub returns-in-None-clause-judged : goal.returns-in-None-clause-judged
returns-in-None-clause-judged c = λ F t.
    let p = c.args.m.now.kernel.place in
    then_told (due_first p.due) (out_if F p c.args.pid (process_of F c.args.pid)) c.out_clear.result (sym c.due_first.ensures ∙ c.in-None.is) (c.out_clear.ensures.judged F t)
