use Rattle.std.proofs.Common.{◌≡◌, rules, sym, ap, ◌∙◌, subst}
use Rattle.std.specs.Prelude.{IfOk}
use Rattle.flat_model.specs.Calls.{call_of}
use Rattle.machine_state.specs.Machine.{Standing}
use Rattle.step_units.specs.Growth.{space_of_pid}
use Rattle.step_units.specs.Reading.{AreNamed}
use Rattle.proc_run.specs.Shown.{shown_in}
use Rattle.proc_run.specs.Missed.{missed_by_call}
use Rattle.proc_run.proofs.Calls.{byte_missed, call_missed}
use Rattle.proc_run.proofs.touching.first_missed.Goals as goal

pub returns-in-Miss-clause-value : goal.returns-in-Miss-clause-value
returns-in-Miss-clause-value c = λ known F p s named.
    byte_missed known F p s (shown_in c.args.m.now.kernel (space_of_pid c.args.m.now.kernel c.args.pid) c.args.pages.now) c.args.regs.now c.in-Miss.address _
    (sym c.in-Miss.is ∙ c.try_step.ensures.answer)

pub returns-in-Call-clause-value : goal.returns-in-Call-clause-value
returns-in-Call-clause-value c = λ known F p s named.
    let names : c.numbered.result ≡ call_of c.in-Call.number = search rules in
    call_missed known F p s (shown_in c.args.m.now.kernel (space_of_pid c.args.m.now.kernel c.args.pid) c.args.pages.now) c.args.regs.now c.in-Call.number c.numbered.result c.try_step.new.regs
    c.missed_by_call.result (sym c.in-Call.is ∙ c.try_step.ensures.answer) c.try_step.ensures.registers names
    (subst (λ (m : Standing).
    IfOk c.missed_by_call.result (λ byte. byte ≡ missed_by_call known F p s (shown_in m.kernel (space_of_pid m.kernel c.args.pid) c.args.pages.now) c.try_step.new.regs c.numbered.result))
    c.try_step.ensures.same
    (c.missed_by_call.ensures.value known F p s (subst (AreNamed known) (sym (ap (λ (m : Standing). m.images) c.try_step.ensures.same)) named)))
