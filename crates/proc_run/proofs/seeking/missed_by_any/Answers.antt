use Rattle.std.proofs.Common.{◌≡◌, sym, ap, subst}
use Rattle.std.specs.Prelude.{IfOk}
use Rattle.machine_state.specs.Machine.{Standing}
use Rattle.step_units.specs.Growth.{space_of_pid}
use Rattle.step_units.specs.Reading.{AreNamed}
use Rattle.proc_run.specs.Shown.{shown_in}
use Rattle.proc_run.specs.Missed.{first_missed}
use Rattle.proc_run.proofs.Calls.{done_missed}
use Rattle.proc_run.proofs.Covering.{any_quiet}
use Rattle.proc_run.proofs.seeking.missed_by_any.Goals as goal

pub first_missed-requires-clause-quiet : goal.first_missed-requires-clause-quiet
first_missed-requires-clause-quiet c =
    any_quiet c.args.m.now c.completes_shown.new.m c.args.pid c.args.pages.now c.args.regs.now _ c.completes_shown.ensures.same c.if-branch.false
    c.in_ok-completes_shown.ensures.value

pub returns-then-branch-clause-value : goal.returns-then-branch-clause-value
returns-then-branch-clause-value c = λ known F p s named.
    done_missed known F p s (shown_in c.args.m.now.kernel (space_of_pid c.args.m.now.kernel c.args.pid) c.args.pages.now) c.args.regs.now
    (c.in_ok-completes_shown.ensures.value.0 c.if-branch.true)

pub returns-else-branch-clause-value : goal.returns-else-branch-clause-value
returns-else-branch-clause-value c = λ known F p s named.
    subst (λ (m : Standing).
    IfOk c.first_missed.result (λ byte. byte ≡ first_missed known F p s (shown_in m.kernel (space_of_pid m.kernel c.args.pid) c.args.pages.now) c.args.regs.now))
    c.completes_shown.ensures.same
    (c.first_missed.ensures.value known F p s (subst (AreNamed known) (sym (ap (λ (m : Standing). m.images) c.completes_shown.ensures.same)) named))
