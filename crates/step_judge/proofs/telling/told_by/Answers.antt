use Rattle.std.proofs.Common.{◌≡◌, Some, None, ◌∙◌, subst}
use Rattle.std.specs.Prelude.{IfOk}
use Rattle.std.proofs.lemmas.Option.{same_Some}
use Rattle.vm_facts.specs.declared.entry.Entry.{Entry}
use Rattle.paged_model.specs.Steps.{other_act}
use Rattle.step_judge.proofs.telling.told_by.Goals as goal

pub returns-in-Some : goal.returns-in-Some
returns-in-Some c = λ made is.
    subst (λ (e : Entry). IfOk c.other_act.result (λ reason. reason ≡ other_act c.args.pid c.args.e.now (Some e)))
    (same_Some c.in-Some.made.now made (c.in-Some.ensures.value ∙ is)) c.other_act.ensures

pub returns-in-None : goal.returns-in-None
returns-in-None c = λ made is. absurd (let z : None ≡ Some made = c.in-None.ensures.value ∙ is in cc)
