use Rattle.std.proofs.Common.{sym, ap, ◌∙◌}
use Rattle.proc_run.specs.Shown.{shown_in}
use Rattle.proc_run.specs.Missed.{missed_by_call}
use Rattle.step_units.specs.Growth.{space_of_pid}
use Rattle.proc_run.proofs.Calls.{one_call}
use Rattle.proc_run.proofs.touching.missed_by_call.Goals as goal

pub returns-in_ok-read_call-in-Some-clause-value : goal.returns-in_ok-read_call-in-Some-clause-value
returns-in_ok-read_call-in-Some-clause-value c = λ known F p s named.
    let memory = shown_in c.args.m.now.kernel (space_of_pid c.args.m.now.kernel c.args.pid) c.args.pages.now in
    one_call known F p s memory c.args.regs.now c.in-Some.call c.in_ok-read_call-in-Some.field-0 c.missed_byte.result (c.in_ok-read_call-in-Some.ensures.value known F p s named)
    c.missed_byte.ensures
    ∙ sym (ap (missed_by_call known F p s memory c.args.regs.now) c.in-Some.is)
