use Rattle.std.proofs.Common.{◌≡◌, Option, sym, ◌∙◌, subst}
use Rattle.std.specs.Prelude.{IfOk}
use Rattle.paged_model.specs.declared.reason.Reason.{Reason}
use Rattle.step_judge.proofs.Tellings.{done_told, other_told}
use Rattle.step_judge.proofs.telling.other_act.Goals as goal

pub returns-then-is_done : goal.returns-then-is_done
returns-then-is_done c = done_told c.args._pid c.args.e.now c.args.made.now (sym c.is_done.ensures ∙ c.if-is_done.true)

pub returns-else-is_done : goal.returns-else-is_done
returns-else-is_done c =
    subst (λ (o : Option Reason). IfOk c.comes.result (λ reason. reason ≡ o))
    (other_told c.args._pid c.args.e.now c.args.made.now (sym c.is_done.ensures ∙ c.if-is_done.false)) c.comes.ensures
