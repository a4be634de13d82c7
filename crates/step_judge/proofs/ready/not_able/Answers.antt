use Rattle.std.proofs.Common.{sym, ◌∙◌}
use Rattle.paged_model.specs.Reasons.{or_reason}
use Rattle.paged_model.specs.Moves.{due_first}
use Rattle.paged_model.specs.Steps.{stuck}
use Rattle.move_judge.proofs.Chosen.{first_told, then_told}
use Rattle.step_judge.specs.Told.{other_by}
use Rattle.step_judge.proofs.ready.not_able.Goals as goal

pub returns-in-Some : goal.returns-in-Some
returns-in-Some c = λ A s t.
    first_told (stuck A s c.args.pid) (or_reason (other_by c.args.begun c.args.pid) (due_first c.args.m.now.kernel.place.due)) c.in-Some.reason
    (sym (c.stuck.ensures A s t) ∙ c.in-Some.is)

pub returns-in-None : goal.returns-in-None
returns-in-None c = λ A s t.
    then_told (stuck A s c.args.pid) (or_reason (other_by c.args.begun c.args.pid) (due_first c.args.m.now.kernel.place.due)) c.not_next.result
    (sym (c.stuck.ensures A s t) ∙ c.in-None.is) c.not_next.ensures
