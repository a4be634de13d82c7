use Rattle.std.proofs.Common.{◌≡◌, ◌+◌, ◌-◌, Some, None, sym, ap, ◌∙◌, subst}
use Rattle.flat_state.specs.PageNames.{beside, pages_from}
use Rattle.page_model.specs.Conditions.{IsShared}
use Rattle.paged_model.specs.Moves.{each_page}
use Rattle.paged_model.specs.Leaving.{put_along}
use Rattle.move_judge.proofs.Chosen.{first_told, then_told}
use Rattle.move_judge.proofs.Alongside.{each_first}
use Rattle.move_judge.proofs.putting.+each_along.Goals as goal

pub put_along-requires-clause-shared : goal.put_along-requires-clause-shared
put_along-requires-clause-shared t c = subst (IsShared c.args.m.now.kernel.place) (sym c.beside.ensures) (c.requires.shared c.args.lo)

pub returns-in-Some : goal.returns-in-Some
returns-in-Some t c =
    let reason = put_along c.args.m.now.kernel.place c.args.page in
    let page = c.args.page in
    let lo = c.args.lo in
    first_told (reason (beside page lo)) (each_page reason (pages_from page (lo + 1) (c.args.n - 1))) c.in-Some.reason
    (ap reason (sym c.beside.ensures) ∙ sym c.put_along.ensures ∙ c.in-Some.is)
    ∙ sym (each_first page reason lo c.args.n c.if-n-eq0.false)

pub returns-in-None : goal.returns-in-None
returns-in-None t c =
    let reason = put_along c.args.m.now.kernel.place c.args.page in
    let page = c.args.page in
    let lo = c.args.lo in
    then_told (reason (beside page lo)) (each_page reason (pages_from page (lo + 1) (c.args.n - 1))) c.each_along.result
    (ap reason (sym c.beside.ensures) ∙ sym c.put_along.ensures ∙ c.in-None.is) c.each_along.ensures
    ∙ sym (each_first page reason lo c.args.n c.if-n-eq0.false)
