use Rattle.std.proofs.Common.{Some, sym, ap, ◌∙◌}
use Rattle.machine_state.specs.Machine.{Standing}
use Rattle.proc_run.specs.Missed.{page_missed}
use Rattle.proc_run.proofs.seeking.page_beyond.Goals as goal

pub returns-in-Some-clause-value : goal.returns-in-Some-clause-value
returns-in-Some-clause-value c = λ known F p s named.
    c.page_at.ensures.page ∙ ap (λ (m : Standing). page_missed m.kernel c.args.pid (Some c.in-Some.address)) c.missed_by_any.ensures.same
    ∙ ap (page_missed c.args.m.now.kernel c.args.pid) (sym c.in-Some.is ∙ c.in_ok-address.ensures.value known F p s named)

pub returns-in-None-clause-value : goal.returns-in-None-clause-value
returns-in-None-clause-value c = λ known F p s named.
    ap (page_missed c.args.m.now.kernel c.args.pid) (sym c.in-None.is ∙ c.in_ok-address.ensures.value known F p s named)
