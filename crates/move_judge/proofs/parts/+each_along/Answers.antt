use Rattle.std.proofs.Common.{◌≡◌, ◌+◌, ◌-◌, ◌≤◌, sym, ap, ◌∙◌, arith}
use Rattle.flat_state.specs.PageNames.{number_of, beside, pages_from}
use Rattle.page_laws.proofs.Lists.Runs.{number_beside}
use Rattle.paged_model.specs.Moves.{each_page}
use Rattle.paged_model.specs.Parts.{write_along}
use Rattle.move_judge.proofs.Chosen.{first_told, then_told}
use Rattle.move_judge.proofs.Alongside.{each_first}
use Rattle.move_judge.proofs.parts.+each_along.Goals as goal

pub returns-in-Some : goal.returns-in-Some
returns-in-Some t c =
    let reason = write_along c.args.m.now.kernel.place c.args.page in
    let page = c.args.page in
    let lo = c.args.lo in
    first_told (reason (beside page lo)) (each_page reason (pages_from page (lo + 1) (c.args.n - 1))) c.in-Some.reason
    (ap reason (sym c.beside-other.ensures) ∙ sym c.write_along.ensures.reason ∙ c.in-Some.is)
    ∙ sym (each_first page reason lo c.args.n c.if-n-eq0.false)

pub overflow_add-next : goal.overflow_add-next
overflow_add-next t c =
    let number : number_of c.beside-other.result ≡ c.args.lo = ap number_of c.beside-other.ensures ∙ number_beside c.args.page c.args.lo in
    let low : number_of c.beside-other.result ≤ 4096 = c.write_along.ensures.low c.in-None.is in
    omega arith

pub returns-in-None : goal.returns-in-None
returns-in-None t c =
    let reason = write_along c.args.m.now.kernel.place c.args.page in
    let page = c.args.page in
    let lo = c.args.lo in
    then_told (reason (beside page lo)) (each_page reason (pages_from page (lo + 1) (c.args.n - 1))) c.each_along.result
    (ap reason (sym c.beside-other.ensures) ∙ sym c.write_along.ensures.reason ∙ c.in-None.is)
    c.each_along.ensures
    ∙ sym (each_first page reason lo c.args.n c.if-n-eq0.false)
