use Rattle.std.proofs.Common.{Bool, cond, Some, None, sym, ap, ◌∙◌}
use Rattle.std.proofs.lemmas.Bool.{eq-eqb, ne_eqb}
use Rattle.page_opt.proofs.Replaying.{due_first, due_none}
use Rattle.page_opt.proofs.replay.due.Goals as goal

pub returns-in_err-victim : goal.returns-in_err-victim
returns-in_err-victim c = c.from_residual.ensures ∙ due_none c.args.at c.args.victims.now c.in_err-victim.ensures.value

pub returns-then-victim-at : goal.returns-then-victim-at
returns-then-victim-at c =
    let v = c.in_ok-victim.victim.now in
    sym (due_first c.args.at c.args.victims.now v c.in_ok-victim.ensures.value ∙ ap (λ (b : Bool). cond b (Some v.page) None) (eq-eqb v.at c.args.at c.if-victim-at.true))

pub returns-else-victim-at : goal.returns-else-victim-at
returns-else-victim-at c =
    let v = c.in_ok-victim.victim.now in
    sym (due_first c.args.at c.args.victims.now v c.in_ok-victim.ensures.value ∙ ap (λ (b : Bool). cond b (Some v.page) None) (ne_eqb v.at c.args.at c.if-victim-at.false))
