use Rattle.std.proofs.Common.{◌≡◌, Some, refl, sym, ap, ◌∙◌, subst}
use Rattle.vm_facts.specs.declared.page.Page.{Page}
use Rattle.page_model.specs.Placement.{is_dirty}
use Rattle.paged_model.specs.Reasons.{or_reason}
use Rattle.paged_model.specs.Moves.{is_there, if_there, wrong_length}
use Rattle.paged_model.specs.declared.reason.Reason.TheVariants as reasons
use Rattle.paged_model.specs.Leaving.{owner_stays, unseated, put_reason_by}
use Rattle.move_judge.proofs.putting.put_clear.Goals as goal

pub returns-in-Data-clause-judged : goal.returns-in-Data-clause-judged
returns-in-Data-clause-judged c = λ F t.
    let p = c.args.m.now.kernel.place in
    c.put_of.ensures.judged F t
    ∙ ap (λ (q : Page). or_reason (owner_stays F p q) (if_there (is_there p q) q (or_reason (wrong_length c.args.n) (or_reason (unseated p q) (put_reason_by p q c.args.n (is_dirty p q))))))
    (sym c.in-Data.is)

pub returns-in-Stack-clause-judged : goal.returns-in-Stack-clause-judged
returns-in-Stack-clause-judged c = λ F t.
    let p = c.args.m.now.kernel.place in
    c.put_of-in-Stack.ensures.judged F t
    ∙ ap (λ (q : Page). or_reason (owner_stays F p q) (if_there (is_there p q) q (or_reason (wrong_length c.args.n) (or_reason (unseated p q) (put_reason_by p q c.args.n (is_dirty p q))))))
    (sym c.in-Stack.is)

pub returns-in-Text-clause-judged : goal.returns-in-Text-clause-judged
returns-in-Text-clause-judged c = λ F t.
    let p = c.args.m.now.kernel.place in
    let page = c.args.page in
    let rest = if_there (is_there p page) page (or_reason (wrong_length c.args.n) (or_reason (unseated p page) (put_reason_by p page c.args.n (is_dirty p page)))) in
    subst (λ (q : Page). Some (reasons.OfText q) ≡ or_reason (owner_stays F p q) rest) (sym c.in-Text.is) refl
