use Rattle.std.proofs.Common.{ap, ◌∙◌}
use Rattle.machine_state.specs.Machine.{Standing}
use Rattle.proc_run.specs.Missed.{valid_only}
use Rattle.proc_run.proofs.touching.next_valid.Goals as goal

pub returns-clause-value : goal.returns-clause-value
returns-clause-value c = λ known F p s named.
    c.valid_only.ensures ∙ ap (λ (m : Standing). valid_only m.kernel.place c.in_ok-page.page) c.next_page.ensures.same
    ∙ ap (valid_only c.args.m.now.kernel.place) (c.in_ok-page.ensures.value known F p s named)
