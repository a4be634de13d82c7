use Rattle.std.proofs.Common.{Bool, ap, ◌∙◌, subst}
use Rattle.paged_model.specs.declared.reason.Reason.TheVariants as reasons
use Rattle.paged_model.specs.Reasons.{unless}
use Rattle.move_judge.specs.Records.{IsRecord}
use Rattle.step_judge.proofs.Readying.{none_stuck, some_stuck}
use Rattle.step_judge.proofs.ready.stuck.Goals as goal

pub returns-in-None : goal.returns-in-None
returns-in-None c = λ A s t.
    none_stuck A s c.args.m.now.kernel c.args.pid t (subst (IsRecord c.args.m.now.kernel c.args.pid) c.in-None.is c.record_of.ensures)

pub returns-in-Some : goal.returns-in-Some
returns-in-Some c = λ A s t.
    c.unless.ensures ∙ ap (λ (b : Bool). unless b (reasons.CannotStep c.args.pid)) c.can_step.ensures
    ∙ some_stuck A s c.args.m.now.kernel c.args.pid c.in-Some.process t (subst (IsRecord c.args.m.now.kernel c.args.pid) c.in-Some.is c.record_of.ensures)
