use Rattle.io_edge.specs.WithFiles.{stores}
use Rattle.std.proofs.Common.{w32, sym, ap, ◌∙◌, subst}
use Rattle.std.specs.Prelude.{IfOk, IfErr}
use Rattle.std.proofs.lemmas.Int.{to_z-of_z}
use Rattle.std.proofs.lemmas.Result.{err_from_is_err_and}
use Rattle.flat_model.specs.Calls.{call_of}
use Rattle.step_units.proofs.CallsContinue.{end_continues}
use Rattle.step_units.specs.Ready.{Continues}
use Rattle.proc_run.specs.Runs.{IsSteady, is_now, counts}
use Rattle.proc_run.proofs.Made.{caller_of, ready_advances, ready_goes_on, asleep_advances, asleep_goes_on, stopped, unchanged, made_quiet, missed_advances, missed_stops}
use Rattle.proc_run.proofs.Steps.{no_call_led, no_call_stops}
use Rattle.machine_state.specs.Machine.{Standing}
use Rattle.step_units.specs.Sizes.{KeptAtStop}
use Rattle.step_units.proofs.StopsKeep.{alive_same}
use Rattle.proc_run.proofs.StopsSame.{call_same}
use Rattle.proc_run.proofs.calling.call.Goals as goal

-- A number that is no call's.

pub returns-in_err-kill-clause-stops : goal.returns-in_err-kill-clause-stops
returns-in_err-kill-clause-stops g c =
    let e = err_from_is_err_and c.from_residual.result c.from_residual.ensures.1 in
    rw (e.1, e.2) (λ A s image n.
    no_call_stops A s c.args.m.now (g.F.Files.holds c.args.files.now) (stores g.F.Files g.D.SwapDev c.args.files.now c.args.swap.now) image c.args.pid
    (is_now c.args.patience) n.0 n.1 c.args.before.now n.2 c.requires.registers
    c.kill.new.m (stores g.F.Files g.D.SwapDev c.kill.new.files c.kill.new.swap) c.args.number c.args.regs.now c.in_err-kill.field-0.0 c.requires.made
    (ap call_of (sym (to_z-of_z w32 c.args.number c.ranges.number)) ∙ sym c.numbered.ensures ∙ c.in_default.is) c.in_err-kill.ensures.stops)

pub returns-in_default-clause-advances : goal.returns-in_default-clause-advances
returns-in_default-clause-advances g c = λ A s image n.
    no_call_led A s c.args.m.now (g.F.Files.holds c.args.files.now) (stores g.F.Files g.D.SwapDev c.args.files.now c.args.swap.now) image c.args.pid
    (is_now c.args.patience) n.0 n.1 c.args.before.now n.2 c.requires.registers
    c.kill.new.m (stores g.F.Files g.D.SwapDev c.kill.new.files c.kill.new.swap) c.args.number c.args.regs.now c.requires.made
    (ap call_of (sym (to_z-of_z w32 c.args.number c.ranges.number)) ∙ sym c.numbered.ensures ∙ c.in_default.is) c.in_ok-kill.ensures.ended

pub returns-in_default-clause-continues : goal.returns-in_default-clause-continues
returns-in_default-clause-continues g c =
    end_continues c.args.m.now c.kill.new.m c.args.pid 12 (g.F.Files.holds c.args.files.now) (stores g.F.Files g.D.SwapDev c.args.files.now c.args.swap.now)
    (stores g.F.Files g.D.SwapDev c.kill.new.files c.kill.new.swap)
    (caller_of c.args.m.now c.args.pid c.requires.steady c.requires.lends) c.in_ok-kill.ensures.ended

-- One of the eight.

pub returns-in_err-make-clause-stops : goal.returns-in_err-make-clause-stops
returns-in_err-make-clause-stops g c =
    let e = err_from_is_err_and c.from_residual-in_err-make.result c.from_residual-in_err-make.ensures.1 in
    rw (e.1, e.2) (
    stopped c.args.m.now c.make.new.m c.args.pid c.args.before.now c.args.number c.args.regs.now c.in-Some.call (g.F.Files.holds c.args.files.now)
    (stores g.F.Files g.D.SwapDev c.args.files.now c.args.swap.now)
    (stores g.F.Files g.D.SwapDev c.make.new.files c.make.new.swap) (is_now c.args.patience) c.requires.steady c.requires.lends c.requires.registers c.requires.made
    (ap call_of (sym (to_z-of_z w32 c.args.number c.ranges.number)) ∙ sym c.numbered.ensures ∙ c.in-Some.is)
    c.in_err-make.field-0.0 c.in_err-make.ensures.stops)

pub serve_access-requires-clause-steady : goal.serve_access-requires-clause-steady
serve_access-requires-clause-steady g c =
    let same =
    unchanged c.in-Some.call c.args.m.now c.make.new.m c.args.pid c.args.regs.now (g.F.Files.holds c.args.files.now)
    (stores g.F.Files g.D.SwapDev c.args.files.now c.args.swap.now) (stores g.F.Files g.D.SwapDev c.make.new.files c.make.new.swap)
    c.in_ok-make.field-0 c.in-Miss.address c.in-Miss.is c.in_ok-make.ensures.comes in
    subst IsSteady (sym same) c.requires.steady

pub serve_access-requires-clause-lends : goal.serve_access-requires-clause-lends
serve_access-requires-clause-lends g c =
    let same =
    unchanged c.in-Some.call c.args.m.now c.make.new.m c.args.pid c.args.regs.now (g.F.Files.holds c.args.files.now)
    (stores g.F.Files g.D.SwapDev c.args.files.now c.args.swap.now) (stores g.F.Files g.D.SwapDev c.make.new.files c.make.new.swap)
    c.in_ok-make.field-0 c.in-Miss.address c.in-Miss.is c.in_ok-make.ensures.comes in
    rw same c.requires.lends

pub serve_access-requires-clause-backed : goal.serve_access-requires-clause-backed
serve_access-requires-clause-backed g c =
    let same =
    unchanged c.in-Some.call c.args.m.now c.make.new.m c.args.pid c.args.regs.now (g.F.Files.holds c.args.files.now)
    (stores g.F.Files g.D.SwapDev c.args.files.now c.args.swap.now) (stores g.F.Files g.D.SwapDev c.make.new.files c.make.new.swap)
    c.in_ok-make.field-0 c.in-Miss.address c.in-Miss.is c.in_ok-make.ensures.comes in
    rw (same, c.make.ensures.outside.files.holds, c.make.ensures.outside.swap.blocks) c.requires.backed

pub serve_access-requires-clause-quiet : goal.serve_access-requires-clause-quiet
serve_access-requires-clause-quiet g c =
    let same =
    unchanged c.in-Some.call c.args.m.now c.make.new.m c.args.pid c.args.regs.now (g.F.Files.holds c.args.files.now)
    (stores g.F.Files g.D.SwapDev c.args.files.now c.args.swap.now) (stores g.F.Files g.D.SwapDev c.make.new.files c.make.new.swap)
    c.in_ok-make.field-0 c.in-Miss.address c.in-Miss.is c.in_ok-make.ensures.comes in
    rw same (made_quiet c.args.m.now c.args.pid c.args.before.now c.args.number c.args.regs.now c.requires.made)

pub serve_access-requires-clause-registers : goal.serve_access-requires-clause-registers
serve_access-requires-clause-registers g c =
    let same =
    unchanged c.in-Some.call c.args.m.now c.make.new.m c.args.pid c.args.regs.now (g.F.Files.holds c.args.files.now)
    (stores g.F.Files g.D.SwapDev c.args.files.now c.args.swap.now) (stores g.F.Files g.D.SwapDev c.make.new.files c.make.new.swap)
    c.in_ok-make.field-0 c.in-Miss.address c.in-Miss.is c.in_ok-make.ensures.comes in
    rw same c.requires.registers

pub returns-in-Ready-clause-advances : goal.returns-in-Ready-clause-advances
returns-in-Ready-clause-advances g c =
    ready_advances c.args.m.now c.make.new.m c.args.pid c.args.before.now c.args.number c.args.regs.now c.in-Some.call (g.F.Files.holds c.args.files.now)
    (stores g.F.Files g.D.SwapDev c.args.files.now c.args.swap.now)
    (stores g.F.Files g.D.SwapDev c.make.new.files c.make.new.swap) (is_now c.args.patience) c.requires.steady c.requires.lends c.requires.registers c.requires.made
    (ap call_of (sym (to_z-of_z w32 c.args.number c.ranges.number)) ∙ sym c.numbered.ensures ∙ c.in-Some.is)
    c.in_ok-make.field-0 c.in-Ready.is c.in_ok-make.ensures.comes

pub returns-in-Ready-clause-continues : goal.returns-in-Ready-clause-continues
returns-in-Ready-clause-continues g c =
    ready_goes_on c.args.m.now c.make.new.m c.args.pid c.args.before.now c.args.number c.args.regs.now c.in-Some.call (g.F.Files.holds c.args.files.now)
    (stores g.F.Files g.D.SwapDev c.args.files.now c.args.swap.now)
    (stores g.F.Files g.D.SwapDev c.make.new.files c.make.new.swap) (is_now c.args.patience) c.requires.steady c.requires.lends c.requires.registers c.requires.made
    (ap call_of (sym (to_z-of_z w32 c.args.number c.ranges.number)) ∙ sym c.numbered.ensures ∙ c.in-Some.is)
    c.in_ok-make.field-0 c.in-Ready.is c.in_ok-make.ensures.comes

pub returns-in-Asleep-clause-advances : goal.returns-in-Asleep-clause-advances
returns-in-Asleep-clause-advances g c =
    asleep_advances c.args.m.now c.make.new.m c.args.pid c.args.before.now c.args.number c.args.regs.now c.in-Some.call (g.F.Files.holds c.args.files.now)
    (stores g.F.Files g.D.SwapDev c.args.files.now c.args.swap.now)
    (stores g.F.Files g.D.SwapDev c.make.new.files c.make.new.swap) (is_now c.args.patience) c.requires.steady c.requires.lends c.requires.registers c.requires.made
    (ap call_of (sym (to_z-of_z w32 c.args.number c.ranges.number)) ∙ sym c.numbered.ensures ∙ c.in-Some.is)
    c.in_ok-make.field-0 c.in-Asleep.is c.in_ok-make.ensures.comes

pub returns-in-Asleep-clause-continues : goal.returns-in-Asleep-clause-continues
returns-in-Asleep-clause-continues g c =
    asleep_goes_on c.args.m.now c.make.new.m c.args.pid c.args.before.now c.args.number c.args.regs.now c.in-Some.call (g.F.Files.holds c.args.files.now)
    (stores g.F.Files g.D.SwapDev c.args.files.now c.args.swap.now)
    (stores g.F.Files g.D.SwapDev c.make.new.files c.make.new.swap) (is_now c.args.patience) c.requires.steady c.requires.lends c.requires.registers c.requires.made
    (ap call_of (sym (to_z-of_z w32 c.args.number c.ranges.number)) ∙ sym c.numbered.ensures ∙ c.in-Some.is)
    c.in_ok-make.field-0 c.in-Asleep.is c.in_ok-make.ensures.comes

pub returns-in-Miss-clause-advances : goal.returns-in-Miss-clause-advances
returns-in-Miss-clause-advances g c =
    missed_advances c.args.m.now c.make.new.m c.args.pid c.args.before.now c.args.number c.args.regs.now c.in-Some.call (g.F.Files.holds c.args.files.now)
    (stores g.F.Files g.D.SwapDev c.args.files.now c.args.swap.now)
    (stores g.F.Files g.D.SwapDev c.make.new.files c.make.new.swap) (is_now c.args.patience) c.requires.steady c.requires.lends c.requires.registers c.requires.made
    (ap call_of (sym (to_z-of_z w32 c.args.number c.ranges.number)) ∙ sym c.numbered.ensures ∙ c.in-Some.is)
    c.in-Miss.address c.in_ok-make.field-0 c.in-Miss.is c.in_ok-make.ensures.comes c.serve_access.new.m (g.F.Files.holds c.make.new.files)
    (stores g.F.Files g.D.SwapDev c.serve_access.new.files c.serve_access.new.swap) c.make.ensures.outside.files.holds c.serve_access.result
    c.serve_access.ensures.advances

pub returns-in-Miss-clause-stops : goal.returns-in-Miss-clause-stops
returns-in-Miss-clause-stops g c =
    missed_stops c.args.m.now c.make.new.m c.args.pid c.args.before.now c.args.number c.args.regs.now c.in-Some.call (g.F.Files.holds c.args.files.now)
    (stores g.F.Files g.D.SwapDev c.args.files.now c.args.swap.now)
    (stores g.F.Files g.D.SwapDev c.make.new.files c.make.new.swap) (is_now c.args.patience) c.requires.steady c.requires.lends c.requires.registers c.requires.made
    (ap call_of (sym (to_z-of_z w32 c.args.number c.ranges.number)) ∙ sym c.numbered.ensures ∙ c.in-Some.is)
    c.in-Miss.address c.in_ok-make.field-0 c.in-Miss.is c.in_ok-make.ensures.comes c.serve_access.new.m (g.F.Files.holds c.make.new.files)
    (stores g.F.Files g.D.SwapDev c.serve_access.new.files c.serve_access.new.swap) c.make.ensures.outside.files.holds c.serve_access.result
    c.serve_access.ensures.stops

pub returns-in-Miss-clause-continues : goal.returns-in-Miss-clause-continues
returns-in-Miss-clause-continues g c =
    let same =
    unchanged c.in-Some.call c.args.m.now c.make.new.m c.args.pid c.args.regs.now (g.F.Files.holds c.args.files.now)
    (stores g.F.Files g.D.SwapDev c.args.files.now c.args.swap.now) (stores g.F.Files g.D.SwapDev c.make.new.files c.make.new.swap)
    c.in_ok-make.field-0 c.in-Miss.address c.in-Miss.is c.in_ok-make.ensures.comes in
    subst (λ (m : Standing). IfOk c.serve_access.result (λ advance. Continues m c.serve_access.new.m (counts advance))) same c.serve_access.ensures.continues

-- Where the run stops, the sizes and images stay, and a journal is full only at its bound.

pub returns-in_err-kill-clause-kept : goal.returns-in_err-kill-clause-kept
returns-in_err-kill-clause-kept g c =
    let e = err_from_is_err_and c.from_residual.result c.from_residual.ensures.1 in
    rw (e.1, e.2) (alive_same c.args.m.now c.kill.new.m c.args.pid (g.F.Files.holds c.args.files.now) (stores g.F.Files g.D.SwapDev c.args.files.now c.args.swap.now)
    (stores g.F.Files g.D.SwapDev c.kill.new.files c.kill.new.swap) c.in_err-kill.field-0.0 c.in_err-kill.ensures.stops)

pub returns-in_err-make-clause-kept : goal.returns-in_err-make-clause-kept
returns-in_err-make-clause-kept g c =
    let e = err_from_is_err_and c.from_residual-in_err-make.result c.from_residual-in_err-make.ensures.1 in
    rw (e.1, e.2) (call_same c.in-Some.call c.args.m.now c.make.new.m c.args.pid c.args.regs.now (g.F.Files.holds c.args.files.now) (stores g.F.Files g.D.SwapDev c.args.files.now c.args.swap.now)
    (stores g.F.Files g.D.SwapDev c.make.new.files c.make.new.swap) c.in_err-make.field-0.0 c.in_err-make.ensures.stops)

pub returns-in-Miss-clause-kept : goal.returns-in-Miss-clause-kept
returns-in-Miss-clause-kept g c =
    let same =
    unchanged c.in-Some.call c.args.m.now c.make.new.m c.args.pid c.args.regs.now (g.F.Files.holds c.args.files.now)
    (stores g.F.Files g.D.SwapDev c.args.files.now c.args.swap.now) (stores g.F.Files g.D.SwapDev c.make.new.files c.make.new.swap)
    c.in_ok-make.field-0 c.in-Miss.address c.in-Miss.is c.in_ok-make.ensures.comes in
    subst (λ (m : Standing). IfErr c.serve_access.result (KeptAtStop m c.serve_access.new.m)) same c.serve_access.ensures.kept
