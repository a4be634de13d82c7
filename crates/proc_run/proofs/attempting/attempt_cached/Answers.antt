use Rattle.std.proofs.Common.{sym, ◌∙◌, subst}
use Rattle.machine_state.specs.Going.{CanGoOn}
use Rattle.machine_state.proofs.WritesGoOn.{writes_go}
use Rattle.proc_run.proofs.Attempts.{wrote_none, leaves}
use Rattle.proc_run.proofs.attempting.attempt_cached.Goals as goal

pub returns-clause-only : goal.returns-clause-only
returns-clause-only c =
    let w = c.step_cached.ensures.wrote in
    leaves c.step_cached.result c.args.m.now _
    (λ d. c.m-1.given.1 (sym (w.0 ∙ c.memory.ensures.same_reference)) ∙ wrote_none _ _ _ _ c.args.regs.now w.2 (λ e. d (c.step_cached.ensures.answer ∙ e)) ∙ c.memory.ensures.now)

pub returns-clause-goes_on : goal.returns-clause-goes_on
returns-clause-goes_on c =
    let w = c.step_cached.ensures.wrote in
    subst CanGoOn (sym (c.m-1.given.1 (sym (w.0 ∙ c.memory.ensures.same_reference)))) (writes_go _ _ _ _ w.2 (subst CanGoOn (sym c.memory.ensures.now) c.requires.ready))
