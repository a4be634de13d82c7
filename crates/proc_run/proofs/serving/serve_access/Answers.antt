use Rattle.io_edge.specs.WithFiles.{stores}
use Rattle.std.proofs.Common.{inr, inl, sym, subst}
use Rattle.std.proofs.lemmas.Result.{err_from_is_err_and}
use Rattle.step_units.specs.Served.{Served}
use Rattle.step_units.specs.Callers.{IsCaller}
use Rattle.step_units.specs.ProcCallsLeaving.{HasEnded, StopsAlive}
use Rattle.step_units.proofs.Running.{continues_both}
use Rattle.step_units.proofs.CallsContinue.{end_continues}
use Rattle.proc_run.specs.Runs.{is_now}
use Rattle.proc_run.proofs.Served.{IsStuck, EndsBy, ends_calls, served_stops, advances_valid, advances_stuck, advances_ended, stops_ended}
use Rattle.step_units.proofs.StopsKeep.{alive_same}
use Rattle.proc_run.proofs.StopsSame.{served_same, continued_same}
use Rattle.proc_run.proofs.serving.serve_access.Goals as goal
use Rattle.proc_run.proofs.serving.serve_access.Goals.{in-NoSpace, in-Signal}

pub returns-in_err-served-clause-stops : goal.returns-in_err-served-clause-stops
returns-in_err-served-clause-stops g c =
    let e = err_from_is_err_and c.from_residual.result c.from_residual.ensures.1 in
    rw (e.1, e.2) (λ A s image n.
    served_stops (is_now c.args.patience) A s c.args.m.now c.serve_by.new.m (g.F.Files.holds c.args.files.now)
    (stores g.F.Files g.D.SwapDev c.args.files.now c.args.swap.now) (stores g.F.Files g.D.SwapDev c.serve_by.new.files c.serve_by.new.swap)
    image c.args.pid n.0 n.1 c.args.address c.args.write n.2 c.in_err-served.field-0.0 n.3 n.4 c.in_err-served.ensures.stops)

pub returns-in-Valid-clause-advances : goal.returns-in-Valid-clause-advances
returns-in-Valid-clause-advances g c = λ A s image n.
    advances_valid (is_now c.args.patience) A s c.args.m.now c.serve_by.new.m (g.F.Files.holds c.args.files.now)
    (stores g.F.Files g.D.SwapDev c.args.files.now c.args.swap.now) (stores g.F.Files g.D.SwapDev c.serve_by.new.files c.serve_by.new.swap)
    image c.args.pid n.0 n.1 c.args.address c.args.write n.2 c.in_ok-served.served c.in-Valid.is n.3 n.4 c.in_ok-served.ensures.served

pub returns-in-Asleep-clause-advances : goal.returns-in-Asleep-clause-advances
returns-in-Asleep-clause-advances g c = λ A s image n.
    advances_stuck (is_now c.args.patience) A s c.args.m.now c.serve_by.new.m (g.F.Files.holds c.args.files.now)
    (stores g.F.Files g.D.SwapDev c.args.files.now c.args.swap.now) (stores g.F.Files g.D.SwapDev c.serve_by.new.files c.serve_by.new.swap)
    image c.args.pid n.0 n.1 c.args.address c.args.write n.2 c.in_ok-served.served
    (elim c.in-Asleep.is [ inl y ↦ subst IsStuck (sym y.1) tt | inr y ↦ subst IsStuck (sym y) tt ]) n.3 n.4 c.in_ok-served.ensures.served

pub kill-requires-clause-calls : goal.kill-requires-clause-calls
kill-requires-clause-calls g c =
    let ends : EndsBy c.in_ok-served.served c.match-served.signal = elim c.match-served.branch [
      | in-NoSpace w ↦ subst (λ (y : Served). EndsBy y c.match-served.signal) (sym w.in-NoSpace.is) w.signal-is
      | in-Signal w ↦ subst (λ (y : Served). EndsBy y c.match-served.signal) (sym w.in-Signal.is) w.signal-is
    ] in
    ends_calls (is_now c.args.patience) c.args.m.now c.serve_by.new.m c.args.pid c.args.address c.args.write (g.F.Files.holds c.args.files.now)
    (stores g.F.Files g.D.SwapDev c.args.files.now c.args.swap.now)
    (stores g.F.Files g.D.SwapDev c.serve_by.new.files c.serve_by.new.swap)
    c.in_ok-served.served c.match-served.signal ends c.in_ok-served.ensures.served c.requires.lends c.in_ok-served.ensures.goes_on c.in_ok-served.ensures.continues

pub returns-in_err-kill-clause-stops : goal.returns-in_err-kill-clause-stops
returns-in_err-kill-clause-stops g c =
    let ends : EndsBy c.in_ok-served.served c.match-served.signal = elim c.match-served.branch [
      | in-NoSpace w ↦ subst (λ (y : Served). EndsBy y c.match-served.signal) (sym w.in-NoSpace.is) w.signal-is
      | in-Signal w ↦ subst (λ (y : Served). EndsBy y c.match-served.signal) (sym w.in-Signal.is) w.signal-is
    ] in
    let e = err_from_is_err_and c.from_residual-in_err-kill.result c.from_residual-in_err-kill.ensures.1 in
    rw (e.1, e.2) (λ A s image n.
    stops_ended (is_now c.args.patience) A s c.args.m.now c.serve_by.new.m c.kill.new.m (g.F.Files.holds c.args.files.now) (stores g.F.Files g.D.SwapDev c.args.files.now c.args.swap.now)
    (stores g.F.Files g.D.SwapDev c.serve_by.new.files c.serve_by.new.swap) (stores g.F.Files g.D.SwapDev c.kill.new.files c.kill.new.swap) image c.args.pid n.0 n.1
    c.args.address c.args.write n.2 c.in_ok-served.served c.match-served.signal
    c.in_err-kill.field-0.0 ends c.in_ok-served.ensures.continues n.3 n.4 c.in_ok-served.ensures.served
    (subst (λ h. StopsAlive c.serve_by.new.m c.kill.new.m c.args.pid h (stores g.F.Files g.D.SwapDev c.serve_by.new.files c.serve_by.new.swap)
    (stores g.F.Files g.D.SwapDev c.kill.new.files c.kill.new.swap) c.in_err-kill.field-0.0)
    c.serve_by.ensures.outside.files.holds c.in_err-kill.ensures.stops))

pub returns-clause-advances : goal.returns-clause-advances
returns-clause-advances g c =
    let ends : EndsBy c.in_ok-served.served c.match-served.signal = elim c.match-served.branch [
      | in-NoSpace w ↦ subst (λ (y : Served). EndsBy y c.match-served.signal) (sym w.in-NoSpace.is) w.signal-is
      | in-Signal w ↦ subst (λ (y : Served). EndsBy y c.match-served.signal) (sym w.in-Signal.is) w.signal-is
    ] in
    λ A s image n.
    advances_ended (is_now c.args.patience) A s c.args.m.now c.serve_by.new.m c.kill.new.m (g.F.Files.holds c.args.files.now) (stores g.F.Files g.D.SwapDev c.args.files.now c.args.swap.now)
    (stores g.F.Files g.D.SwapDev c.serve_by.new.files c.serve_by.new.swap) (stores g.F.Files g.D.SwapDev c.kill.new.files c.kill.new.swap) image c.args.pid n.0 n.1
    c.args.address c.args.write n.2 c.in_ok-served.served c.match-served.signal
    ends c.in_ok-served.ensures.continues n.3 n.4 c.in_ok-served.ensures.served
    (subst (λ h. HasEnded c.serve_by.new.m c.kill.new.m c.args.pid c.match-served.signal h (stores g.F.Files g.D.SwapDev c.serve_by.new.files c.serve_by.new.swap)
    (stores g.F.Files g.D.SwapDev c.kill.new.files c.kill.new.swap))
    c.serve_by.ensures.outside.files.holds c.in_ok-kill.ensures.ended)

pub returns-clause-continues : goal.returns-clause-continues
returns-clause-continues g c =
    let ends : EndsBy c.in_ok-served.served c.match-served.signal = elim c.match-served.branch [
      | in-NoSpace w ↦ subst (λ (y : Served). EndsBy y c.match-served.signal) (sym w.in-NoSpace.is) w.signal-is
      | in-Signal w ↦ subst (λ (y : Served). EndsBy y c.match-served.signal) (sym w.in-Signal.is) w.signal-is
    ] in
    let after : IsCaller c.serve_by.new.m c.args.pid =
    ends_calls (is_now c.args.patience) c.args.m.now c.serve_by.new.m c.args.pid c.args.address c.args.write (g.F.Files.holds c.args.files.now)
    (stores g.F.Files g.D.SwapDev c.args.files.now c.args.swap.now)
    (stores g.F.Files g.D.SwapDev c.serve_by.new.files c.serve_by.new.swap)
    c.in_ok-served.served c.match-served.signal ends c.in_ok-served.ensures.served c.requires.lends c.in_ok-served.ensures.goes_on c.in_ok-served.ensures.continues in
    continues_both c.args.m.now c.serve_by.new.m c.kill.new.m 0 1 c.in_ok-served.ensures.continues
    (end_continues c.serve_by.new.m c.kill.new.m c.args.pid c.match-served.signal (g.F.Files.holds c.serve_by.new.files)
    (stores g.F.Files g.D.SwapDev c.serve_by.new.files c.serve_by.new.swap) (stores g.F.Files g.D.SwapDev c.kill.new.files c.kill.new.swap)
    after c.in_ok-kill.ensures.ended)

pub returns-in_err-served-clause-kept : goal.returns-in_err-served-clause-kept
returns-in_err-served-clause-kept g c =
    let e = err_from_is_err_and c.from_residual.result c.from_residual.ensures.1 in
    rw (e.1, e.2) (served_same (is_now c.args.patience) c.args.m.now c.serve_by.new.m c.args.pid c.args.address c.args.write (g.F.Files.holds c.args.files.now)
    (stores g.F.Files g.D.SwapDev c.args.files.now c.args.swap.now)
    (stores g.F.Files g.D.SwapDev c.serve_by.new.files c.serve_by.new.swap)
    c.in_err-served.field-0.0 c.in_err-served.ensures.stops)

pub returns-in_err-kill-clause-kept : goal.returns-in_err-kill-clause-kept
returns-in_err-kill-clause-kept g c =
    let e = err_from_is_err_and c.from_residual-in_err-kill.result c.from_residual-in_err-kill.ensures.1 in
    rw (e.1, e.2) (continued_same c.args.m.now c.serve_by.new.m c.kill.new.m 0 c.in_err-kill.field-0.0 c.in_ok-served.ensures.continues
    (alive_same c.serve_by.new.m c.kill.new.m c.args.pid (g.F.Files.holds c.serve_by.new.files) (stores g.F.Files g.D.SwapDev c.serve_by.new.files c.serve_by.new.swap)
    (stores g.F.Files g.D.SwapDev c.kill.new.files c.kill.new.swap) c.in_err-kill.field-0.0 c.in_err-kill.ensures.stops))
