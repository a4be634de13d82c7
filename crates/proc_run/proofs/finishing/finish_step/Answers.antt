use Rattle.io_edge.specs.WithFiles.{stores}
use Rattle.std.proofs.Common.{◌≡◌, true, false, w32, FitsSigned, rules, sym, ap, ◌∙◌}
use Rattle.std.proofs.lemmas.Int.{to_z-of_z}
use Rattle.std.proofs.lemmas.Result.{err_from_is_err_and, on_ok_weaker}
use Rattle.flat_model.specs.Calls.{call_of, replied}
use Rattle.proc_run.specs.Rests.{carry_of, r0_of}
use Rattle.proc_run.proofs.Attempts.{call_made}
use Rattle.proc_run.proofs.SoFar.{lends_there}
use Rattle.proc_run.proofs.Finished.{begun_runs, begun_short, never_unnamed, never_else, answer_finishes, answer_stops, answer_counts, end_finishes, end_stopped, end_counts}
use Rattle.machine_state.specs.Outside.{Asks}
use Rattle.proc_run.proofs.finishing.finish_step.Goals as goal

pub unreachable-requires : goal.unreachable-requires
unreachable-requires g c =
    let e : true ≡ false =
    sym (begun_runs c.args.m.now c.args.begun (g.F.Files.holds c.args.files.now) (stores g.F.Files g.D.SwapDev c.args.files.now c.args.swap.now) c.pid_of-pid.result
    c.pid_of-pid.ensures c.requires.begun)
    ∙ c.ready_regs.ensures.none c.in_default.is in
    absurd cc

pub attempt-requires-clause-lends : goal.attempt-requires-clause-lends
attempt-requires-clause-lends g c = lends_there c.args.m.now c.pid_of-pid.result c.requires.steady c.in-Some.ensures.ready

-- A call.

pub unreachable-requires-in_default-numbered : goal.unreachable-requires-in_default-numbered
unreachable-requires-in_default-numbered g c =
    let fits : FitsSigned w32 c.in-Call.number = search rules in
    never_unnamed c.args.m.now c.args.begun (g.F.Files.holds c.args.files.now) (stores g.F.Files g.D.SwapDev c.args.files.now c.args.swap.now) c.pid_of-pid.result
    c.pid_of-pid.ensures c.in-Some.before c.in-Some.ensures.registers
    c.requires.begun c.in-Call.number (sym c.in-Call.ensures.answer) (ap call_of (sym (to_z-of_z w32 c.in-Call.number fits)) ∙ sym c.numbered.ensures ∙ c.in_default-numbered.is)

pub answer-requires-clause-lends : goal.answer-requires-clause-lends
answer-requires-clause-lends g c =
    rw c.in-Call.ensures.only (lends_there c.args.m.now c.pid_of-pid.result c.requires.steady c.in-Some.ensures.ready)

pub answer-requires-clause-short : goal.answer-requires-clause-short
answer-requires-clause-short g c =
    begun_short c.args.m.now c.args.begun (g.F.Files.holds c.args.files.now) (stores g.F.Files g.D.SwapDev c.args.files.now c.args.swap.now) c.pid_of-pid.result c.pid_of-pid.ensures c.requires.begun

pub returns-in_err-answer-in-Call-clause-stops : goal.returns-in_err-answer-in-Call-clause-stops
returns-in_err-answer-in-Call-clause-stops g c =
    let fits : FitsSigned w32 c.in-Call.number = search rules in
    let e = err_from_is_err_and c.from_residual.result c.from_residual.ensures.1 in
    rw (e.1, e.2) (
    answer_stops c.args.m.now c.attempt.new.m c.answer.new.m c.in-Call.ensures.only c.args.begun (g.F.Files.holds c.args.files.now)
    (stores g.F.Files g.D.SwapDev c.args.files.now c.args.swap.now) c.pid_of-pid.result c.pid_of-pid.ensures
    c.in-Some.before c.in-Some.ensures.registers c.in-Call.number c.attempt.new.regs c.in-Some-numbered.call
    (call_made c.args.m.now c.pid_of-pid.result c.in-Some.before c.attempt.new.regs c.in-Call.number (sym c.in-Call.ensures.answer) c.in-Call.ensures.registers)
    (ap call_of (sym (to_z-of_z w32 c.in-Call.number fits)) ∙ sym c.numbered.ensures ∙ c.in-Some-numbered.is)
    c.in_err-answer-in-Call.field-0.0 c.in_err-answer-in-Call.ensures.stops)

pub returns-in_ok-answer-in-Call-clause-finishes : goal.returns-in_ok-answer-in-Call-clause-finishes
returns-in_ok-answer-in-Call-clause-finishes g c =
    let fits : FitsSigned w32 c.in-Call.number = search rules in
    answer_finishes c.args.m.now c.attempt.new.m c.answer.new.m c.in-Call.ensures.only c.args.begun (g.F.Files.holds c.args.files.now)
    (stores g.F.Files g.D.SwapDev c.args.files.now c.args.swap.now) c.pid_of-pid.result c.pid_of-pid.ensures
    c.in-Some.before c.in-Some.ensures.registers c.in-Call.number c.attempt.new.regs c.in-Some-numbered.call
    (call_made c.args.m.now c.pid_of-pid.result c.in-Some.before c.attempt.new.regs c.in-Call.number (sym c.in-Call.ensures.answer) c.in-Call.ensures.registers)
    (ap call_of (sym (to_z-of_z w32 c.in-Call.number fits)) ∙ sym c.numbered.ensures ∙ c.in-Some-numbered.is)
    c.in_ok-answer-in-Call.ensures.answered

pub returns-in_ok-answer-in-Call-clause-counts : goal.returns-in_ok-answer-in-Call-clause-counts
returns-in_ok-answer-in-Call-clause-counts g c =
    answer_counts c.args.m.now c.attempt.new.m c.answer.new.m c.in-Call.ensures.only c.pid_of-pid.result c.requires.steady
    (lends_there c.args.m.now c.pid_of-pid.result c.requires.steady c.in-Some.ensures.ready) c.in-Some-numbered.call
    (replied c.attempt.new.regs (carry_of c.args.begun) (r0_of c.args.begun)) c.in_ok-answer-in-Call.ensures.answered c.in_ok-answer-in-Call.ensures.goes_on

-- A fall below the stack.

pub returns-in-Below-clause-finishes : goal.returns-in-Below-clause-finishes
returns-in-Below-clause-finishes g c =
    end_finishes c.args.m.now c.attempt.new.m c.kill.new.m c.in-Below.ensures.only c.args.begun (g.F.Files.holds c.args.files.now)
    (stores g.F.Files g.D.SwapDev c.args.files.now c.args.swap.now) c.pid_of-pid.result c.pid_of-pid.ensures
    c.in-Some.before c.in-Some.ensures.registers c.in-Below.address (sym c.in-Below.ensures.answer) (stores g.F.Files g.D.SwapDev c.kill.new.files c.kill.new.swap) c.kill.result c.kill.ensures.ended

pub returns-in-Below-clause-stops : goal.returns-in-Below-clause-stops
returns-in-Below-clause-stops g c =
    end_stopped c.args.m.now c.attempt.new.m c.kill.new.m c.in-Below.ensures.only c.args.begun (g.F.Files.holds c.args.files.now)
    (stores g.F.Files g.D.SwapDev c.args.files.now c.args.swap.now) c.pid_of-pid.result c.pid_of-pid.ensures
    c.in-Some.before c.in-Some.ensures.registers c.in-Below.address (sym c.in-Below.ensures.answer) (stores g.F.Files g.D.SwapDev c.kill.new.files c.kill.new.swap) c.kill.result c.kill.ensures.stops

pub returns-in-Below-clause-counts : goal.returns-in-Below-clause-counts
returns-in-Below-clause-counts g c =
    end_counts c.args.m.now c.attempt.new.m c.kill.new.m c.in-Below.ensures.only c.pid_of-pid.result c.requires.steady
    (lends_there c.args.m.now c.pid_of-pid.result c.requires.steady c.in-Some.ensures.ready)
    (g.F.Files.holds c.args.files.now) (stores g.F.Files g.D.SwapDev c.args.files.now c.args.swap.now) (stores g.F.Files g.D.SwapDev c.kill.new.files c.kill.new.swap)
    c.kill.result c.kill.ensures.ended
    (on_ok_weaker c.kill.result (λ (a : Asks c.kill.new.m (g.F.Files.holds c.kill.new.files) (g.D.SwapDev.blocks c.kill.new.swap)). a.ready) c.kill.ensures.goes_on.asks)

-- Nothing else.

pub unreachable-requires-in-Done : goal.unreachable-requires-in-Done
unreachable-requires-in-Done g c =
    never_else c.args.m.now c.args.begun (g.F.Files.holds c.args.files.now) (stores g.F.Files g.D.SwapDev c.args.files.now c.args.swap.now) c.pid_of-pid.result
    c.pid_of-pid.ensures c.in-Some.before c.in-Some.ensures.registers
    c.requires.begun c.attempt.result c.attempt.ensures.answer c.in-Done.is
