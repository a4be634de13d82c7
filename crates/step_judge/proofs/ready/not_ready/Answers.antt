use Rattle.std.proofs.Common.{nat_lt, sym, ◌∙◌}
use Rattle.paged_model.specs.declared.reason.Reason.TheVariants as reasons
use Rattle.paged_model.specs.Reasons.{unless, or_reason}
use Rattle.paged_model.specs.Moves.{due_first}
use Rattle.paged_model.specs.Steps.{stuck}
use Rattle.move_judge.proofs.Chosen.{first_told, then_told}
use Rattle.step_judge.specs.Told.{other_by}
use Rattle.step_judge.proofs.ready.not_ready.Goals as goal

pub returns-in-Some : goal.returns-in-Some
returns-in-Some c = λ A s t.
    first_told (unless (nat_lt c.args.counted 1000000) reasons.TooMany)
    (or_reason (stuck A s c.args.pid) (or_reason (other_by c.args.begun c.args.pid) (due_first c.args.m.now.kernel.place.due))) c.in-Some.reason
    (sym c.too_many.ensures ∙ c.in-Some.is)

pub returns-in-None : goal.returns-in-None
returns-in-None c = λ A s t.
    then_told (unless (nat_lt c.args.counted 1000000) reasons.TooMany)
    (or_reason (stuck A s c.args.pid) (or_reason (other_by c.args.begun c.args.pid) (due_first c.args.m.now.kernel.place.due))) c.not_able.result
    (sym c.too_many.ensures ∙ c.in-None.is) (c.not_able.ensures A s t)
