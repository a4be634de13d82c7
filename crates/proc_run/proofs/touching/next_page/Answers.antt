use Rattle.std.proofs.Common.{◌≡◌, ◌<◌, ◌^◌, List, [], Some, length, eqb-true, sym, ap, ◌∙◌, rules}
use Rattle.std.proofs.lemmas.List.{nil_from_length}
use Rattle.vm_facts.specs.declared.page.Page.{Page}
use Rattle.user_vax.specs.Operands.{register}
use Rattle.machine_state.specs.Machine.{Standing}
use Rattle.step_units.specs.Growth.{space_of_pid}
use Rattle.proc_run.specs.Shown.{shown_in}
use Rattle.proc_run.specs.Missed.{first_missed, page_missed}
use Rattle.proc_run.proofs.Beginning.{first_page}
use Rattle.proc_run.proofs.Covering.{still_quiet}
use Rattle.proc_run.proofs.touching.next_page.Goals as goal

pub first_missed-requires-clause-quiet : goal.first_missed-requires-clause-quiet
first_missed-requires-clause-quiet c =
    still_quiet c.args.m.now.kernel (space_of_pid c.args.m.now.kernel c.args.pid) c.args.pages.now c.args.regs.now c.requires.quiet

pub returns-then-is_empty-clause-value : goal.returns-then-is_empty-clause-value
returns-then-is_empty-clause-value c = λ known F p s named.
    let none : c.args.pages.now ≡ [] = nil_from_length c.args.pages.now (eqb-true (length c.args.pages.now) 0 (sym c.if-is_empty.ensures)) in
    let small : register c.args.regs.now 15 < 2 ^ 32 = search rules in
    c.page_at.ensures.page ∙ first_page c.args.m.now.kernel c.args.pid c.args.regs.now small known F p s
    ∙ ap (λ (qs : List Page). page_missed c.args.m.now.kernel c.args.pid
    (first_missed known F p s (shown_in c.args.m.now.kernel (space_of_pid c.args.m.now.kernel c.args.pid) qs) c.args.regs.now)) (sym none)

pub returns-in-Some-clause-value : goal.returns-in-Some-clause-value
returns-in-Some-clause-value c = λ known F p s named.
    c.page_at-in-Some.ensures.page ∙ ap (λ (m : Standing). page_missed m.kernel c.args.pid (Some c.in-Some.address)) c.first_missed.ensures.same
    ∙ ap (page_missed c.args.m.now.kernel c.args.pid) (sym c.in-Some.is ∙ c.in_ok-address.ensures.value known F p s named)

pub returns-in-None-clause-value : goal.returns-in-None-clause-value
returns-in-None-clause-value c = λ known F p s named.
    ap (page_missed c.args.m.now.kernel c.args.pid) (sym c.in-None.is ∙ c.in_ok-address.ensures.value known F p s named)
