use Rattle.io_edge.specs.WithFiles.{stores}
use Rattle.std.proofs.Common.{◌≡◌, ◌⊎◌, ◌+◌, ◌<◌, ℕ, false, w32, to_z, of_z, FitsSigned, rules, inl, inr, ℤ, Result, Err, refl, sym, ap, ◌∙◌, subst, arith}
use Rattle.std.proofs.lemmas.Int.{to_z-of_z}
use Rattle.std.proofs.lemmas.Result.{err_from_is_err_and}
use Rattle.vm_facts.specs.declared.regs.Regs.{Regs}
use Rattle.vm_facts.specs.declared.stop.Stop.{Stop}
use Rattle.vm_facts.specs.declared.stop.Stop.TheVariants as stops
use Rattle.user_vax.specs.Program.{run}
use Rattle.user_vax.specs.Instruction.{instruction, answer_of}
use Rattle.user_vax.specs.declared.stepped.Stepped.{Stepped}
use Rattle.flat_state.specs.Journal.{instructions_of}
use Rattle.machine_state.specs.Machine.{Standing}
use Rattle.step_units.proofs.CallsContinue.{end_continues}
use Rattle.step_units.proofs.Journals.{last_counts_few}
use Rattle.proc_run.specs.Calls.{own_answers, MadeCall}
use Rattle.proc_run.specs.Runs.{is_now}
use Rattle.proc_run.proofs.Attempts.{RoomOnly, call_made, room_steady, room_lends, room_goes_on}
use Rattle.proc_run.proofs.Made.{caller_of}
use Rattle.proc_run.proofs.Tried.{journal_same, lends_still, later_advances, later_stops, later_goes_on, ran_advances, ran_goes_on, asked_stops, served_advances, served_stops, signal_advances, signal_halts}
use Rattle.step_units.proofs.StopsKeep.{kept_here, alive_same}
use Rattle.proc_run.proofs.StopsSame.{later_same, later_kept}
use Rattle.proc_run.proofs.advancing.next_step.Goals as goal

-- The machine is as it was, but for the room that was asked for, and so it is where the attempt changed nothing.

asked : (m n : Standing) → n ≡ record m { room = n.room } → RoomOnly m n
asked m n e = record { made = n.room; only = e }

tried : (m n l : Standing) → n ≡ record m { room = n.room } → l ≡ n → RoomOnly m l
tried m n l e f = record { made = n.room; only = f ∙ e }

again : (m n : Standing) (pid : ℕ) (regs : Regs) (s : Stepped) → n ≡ m → s ≡ answer_of (run (own_answers m pid) (instruction regs))
    → answer_of (run (own_answers n pid) (instruction regs)) ≡ s
again m n pid regs s f a = ap (λ (l : Standing). answer_of (run (own_answers l pid) (instruction regs))) f ∙ sym a

-- Where the run stops before the attempt.

pub returns-in_err-make_room-clause-stops : goal.returns-in_err-make_room-clause-stops
returns-in_err-make_room-clause-stops g c =
    let e = err_from_is_err_and c.from_residual.result c.from_residual.ensures.1 in
    let cause : (c.in_err-make_room.field-0.0 ≡ stops.JournalFull) ⊎ (c.in_err-make_room.field-0.0 ≡ stops.NoMemory) = elim c.in_err-make_room.ensures.cause [
      | inl y ↦ inl cc
      | inr y ↦ inr cc
    ] in
    rw (e.1, e.2)
    (asked_stops c.args.m.now c.make_room.new.m c.args.pid c.args.before.now c.in_err-make_room.field-0.0 (is_now c.args.patience) (g.F.Files.holds c.args.files.now)
    (stores g.F.Files g.D.SwapDev c.args.files.now c.args.swap.now)
    c.requires.registers c.in_err-make_room.ensures.stop c.requires.steady.ready.whole cause
    (λ z. c.in_err-make_room.ensures.full (ap (λ (t : Stop). let r : Result (Unit {0}) Stop = Err t in r) z))
    (λ z. c.in_err-make_room.ensures.done (ap (λ (t : Stop). let r : Result (Unit {0}) Stop = Err t in r) z)))

-- Where the instruction is complete.

pub ran-requires-clause-can : goal.ran-requires-clause-can
ran-requires-clause-can g c =
    let o = asked c.args.m.now c.make_room.new.m c.in_ok-make_room.ensures.only in
    lends_still c.args.m.now c.make_room.new.m c.attempt_cached.new.m c.args.pid c.args.before.now o c.in-Done.ensures.wrote c.in-Done.ensures.goes_on
    (room_lends c.args.m.now c.make_room.new.m c.args.pid o c.requires.lends)

pub ran-requires-clause-fits : goal.ran-requires-clause-fits
ran-requires-clause-fits g c = λ count before h.
    let o = asked c.args.m.now c.make_room.new.m c.in_ok-make_room.ensures.only in
    let same = journal_same c.args.m.now c.make_room.new.m c.attempt_cached.new.m c.args.pid c.args.before.now o c.in-Done.ensures.wrote in
    let few = last_counts_few c.args.m.now.kernel.journal before c.args.pid count (sym same ∙ h) in
    let fits : instructions_of c.args.m.now.kernel.journal + 1 < 4294967296 = c.requires.fits in
    omega (arith, few, fits)

pub returns-in-Done-clause-advances : goal.returns-in-Done-clause-advances
returns-in-Done-clause-advances g c =
    let o = asked c.args.m.now c.make_room.new.m c.in_ok-make_room.ensures.only in
    ran_advances c.args.m.now c.make_room.new.m c.attempt_cached.new.m c.args.pid c.args.before.now o c.in-Done.ensures.wrote c.requires.steady.clear (sym c.in-Done.ensures.answer)
    c.ran.new.self c.attempt_cached.new.regs c.in-Done.ensures.registers c.ran.ensures.step
    (is_now c.args.patience) (g.F.Files.holds c.args.files.now) (stores g.F.Files g.D.SwapDev c.args.files.now c.args.swap.now) c.requires.registers

pub returns-in-Done-clause-continues : goal.returns-in-Done-clause-continues
returns-in-Done-clause-continues g c =
    let o = asked c.args.m.now c.make_room.new.m c.in_ok-make_room.ensures.only in
    ran_goes_on c.args.m.now c.make_room.new.m c.attempt_cached.new.m c.args.pid c.args.before.now o c.in-Done.ensures.wrote c.requires.steady.clear (sym c.in-Done.ensures.answer)
    c.ran.new.self c.attempt_cached.new.regs c.in-Done.ensures.registers c.ran.ensures.step c.ran.ensures.rest

-- Where it makes a call.

pub call-requires-clause-made : goal.call-requires-clause-made
call-requires-clause-made g c =
    let fits : FitsSigned w32 c.in-Call.number = search rules in
    let same : to_z w32 (of_z w32 c.in-Call.number) ≡ c.in-Call.number = to_z-of_z w32 c.in-Call.number fits in
    subst (λ (z : ℤ). MadeCall c.attempt_cached.new.m c.args.pid c.args.before.now z c.attempt_cached.new.regs) (sym same)
    (subst (λ (m : Standing). MadeCall m c.args.pid c.args.before.now c.in-Call.number c.attempt_cached.new.regs) (sym c.in-Call.ensures.only)
    (call_made c.make_room.new.m c.args.pid c.args.before.now c.attempt_cached.new.regs c.in-Call.number (sym c.in-Call.ensures.answer) c.in-Call.ensures.registers))

pub returns-in-Call-clause-advances : goal.returns-in-Call-clause-advances
returns-in-Call-clause-advances g c =
    let at = tried c.args.m.now c.make_room.new.m c.attempt_cached.new.m c.in_ok-make_room.ensures.only c.in-Call.ensures.only in
    later_advances c.args.m.now c.attempt_cached.new.m c.call.new.m c.args.pid (is_now c.args.patience) (g.F.Files.holds c.args.files.now)
    (stores g.F.Files g.D.SwapDev c.args.files.now c.args.swap.now)
    (stores g.F.Files g.D.SwapDev c.call.new.files c.call.new.swap) at c.call.result c.call.ensures.advances

pub returns-in-Call-clause-stops : goal.returns-in-Call-clause-stops
returns-in-Call-clause-stops g c =
    let at = tried c.args.m.now c.make_room.new.m c.attempt_cached.new.m c.in_ok-make_room.ensures.only c.in-Call.ensures.only in
    later_stops c.args.m.now c.attempt_cached.new.m c.call.new.m c.args.pid (is_now c.args.patience) (g.F.Files.holds c.args.files.now) (stores g.F.Files g.D.SwapDev c.args.files.now c.args.swap.now)
    (stores g.F.Files g.D.SwapDev c.call.new.files c.call.new.swap) at c.call.result c.call.ensures.stops

pub returns-in-Call-clause-continues : goal.returns-in-Call-clause-continues
returns-in-Call-clause-continues g c =
    let at = tried c.args.m.now c.make_room.new.m c.attempt_cached.new.m c.in_ok-make_room.ensures.only c.in-Call.ensures.only in
    later_goes_on c.args.m.now c.attempt_cached.new.m c.call.new.m c.args.pid (is_now c.args.patience) (g.F.Files.holds c.args.files.now)
    (stores g.F.Files g.D.SwapDev c.args.files.now c.args.swap.now)
    (stores g.F.Files g.D.SwapDev c.call.new.files c.call.new.swap) at c.call.result c.requires.steady.clear c.call.ensures.continues

-- Where it waits for a page.

pub returns-in-Miss-clause-advances : goal.returns-in-Miss-clause-advances
returns-in-Miss-clause-advances g c =
    let at = tried c.args.m.now c.make_room.new.m c.attempt_cached.new.m c.in_ok-make_room.ensures.only c.in-Miss.ensures.only in
    served_advances c.args.m.now c.attempt_cached.new.m c.serve_access.new.m c.args.pid (is_now c.args.patience) (g.F.Files.holds c.args.files.now)
    (stores g.F.Files g.D.SwapDev c.args.files.now c.args.swap.now)
    (stores g.F.Files g.D.SwapDev c.serve_access.new.files c.serve_access.new.swap) at c.args.before.now c.requires.registers c.in-Miss.address c.in-Miss.write
    (inl (again c.make_room.new.m c.attempt_cached.new.m c.args.pid c.args.before.now _ c.in-Miss.ensures.only c.in-Miss.ensures.answer))
    c.serve_access.result c.serve_access.ensures.advances

pub returns-in-Miss-clause-stops : goal.returns-in-Miss-clause-stops
returns-in-Miss-clause-stops g c =
    let at = tried c.args.m.now c.make_room.new.m c.attempt_cached.new.m c.in_ok-make_room.ensures.only c.in-Miss.ensures.only in
    served_stops c.args.m.now c.attempt_cached.new.m c.serve_access.new.m c.args.pid (is_now c.args.patience) (g.F.Files.holds c.args.files.now)
    (stores g.F.Files g.D.SwapDev c.args.files.now c.args.swap.now)
    (stores g.F.Files g.D.SwapDev c.serve_access.new.files c.serve_access.new.swap) at c.args.before.now c.requires.registers c.in-Miss.address c.in-Miss.write
    (inl (again c.make_room.new.m c.attempt_cached.new.m c.args.pid c.args.before.now _ c.in-Miss.ensures.only c.in-Miss.ensures.answer))
    c.serve_access.result c.serve_access.ensures.stops

pub returns-in-Below-clause-advances : goal.returns-in-Below-clause-advances
returns-in-Below-clause-advances g c =
    let at = tried c.args.m.now c.make_room.new.m c.attempt_cached.new.m c.in_ok-make_room.ensures.only c.in-Below.ensures.only in
    served_advances c.args.m.now c.attempt_cached.new.m c.serve_access-in-Below.new.m c.args.pid (is_now c.args.patience) (g.F.Files.holds c.args.files.now)
    (stores g.F.Files g.D.SwapDev c.args.files.now c.args.swap.now)
    (stores g.F.Files g.D.SwapDev c.serve_access-in-Below.new.files c.serve_access-in-Below.new.swap) at c.args.before.now c.requires.registers c.in-Below.address false
    (inr (again c.make_room.new.m c.attempt_cached.new.m c.args.pid c.args.before.now _ c.in-Below.ensures.only c.in-Below.ensures.answer, refl))
    c.serve_access-in-Below.result c.serve_access-in-Below.ensures.advances

pub returns-in-Below-clause-stops : goal.returns-in-Below-clause-stops
returns-in-Below-clause-stops g c =
    let at = tried c.args.m.now c.make_room.new.m c.attempt_cached.new.m c.in_ok-make_room.ensures.only c.in-Below.ensures.only in
    served_stops c.args.m.now c.attempt_cached.new.m c.serve_access-in-Below.new.m c.args.pid (is_now c.args.patience) (g.F.Files.holds c.args.files.now)
    (stores g.F.Files g.D.SwapDev c.args.files.now c.args.swap.now)
    (stores g.F.Files g.D.SwapDev c.serve_access-in-Below.new.files c.serve_access-in-Below.new.swap) at c.args.before.now c.requires.registers c.in-Below.address false
    (inr (again c.make_room.new.m c.attempt_cached.new.m c.args.pid c.args.before.now _ c.in-Below.ensures.only c.in-Below.ensures.answer, refl))
    c.serve_access-in-Below.result c.serve_access-in-Below.ensures.stops

-- Where it ends its process.

pub returns-in_err-kill-in-Signal-clause-stops : goal.returns-in_err-kill-in-Signal-clause-stops
returns-in_err-kill-in-Signal-clause-stops g c =
    let at = tried c.args.m.now c.make_room.new.m c.attempt_cached.new.m c.in_ok-make_room.ensures.only c.in-Signal.ensures.only in
    let r = err_from_is_err_and c.from_residual-in_err-kill-in-Signal.result c.from_residual-in_err-kill-in-Signal.ensures.1 in
    rw (r.1, r.2) (
    signal_halts c.args.m.now c.attempt_cached.new.m c.kill.new.m c.args.pid (is_now c.args.patience) (g.F.Files.holds c.args.files.now) (stores g.F.Files g.D.SwapDev c.args.files.now c.args.swap.now)
    (stores g.F.Files g.D.SwapDev c.kill.new.files c.kill.new.swap) at c.args.before.now c.requires.registers c.in-Signal.signal
    (again c.make_room.new.m c.attempt_cached.new.m c.args.pid c.args.before.now _ c.in-Signal.ensures.only c.in-Signal.ensures.answer)
    c.in_err-kill-in-Signal.field-0.0 c.in_err-kill-in-Signal.ensures.stops)

pub returns-in_ok-kill-in-Signal-clause-advances : goal.returns-in_ok-kill-in-Signal-clause-advances
returns-in_ok-kill-in-Signal-clause-advances g c =
    let at = tried c.args.m.now c.make_room.new.m c.attempt_cached.new.m c.in_ok-make_room.ensures.only c.in-Signal.ensures.only in
    signal_advances c.args.m.now c.attempt_cached.new.m c.kill.new.m c.args.pid (is_now c.args.patience) (g.F.Files.holds c.args.files.now)
    (stores g.F.Files g.D.SwapDev c.args.files.now c.args.swap.now)
    (stores g.F.Files g.D.SwapDev c.kill.new.files c.kill.new.swap) at c.args.before.now c.requires.registers c.in-Signal.signal
    (again c.make_room.new.m c.attempt_cached.new.m c.args.pid c.args.before.now _ c.in-Signal.ensures.only c.in-Signal.ensures.answer)
    c.in_ok-kill-in-Signal.ensures.ended

pub returns-in_ok-kill-in-Signal-clause-continues : goal.returns-in_ok-kill-in-Signal-clause-continues
returns-in_ok-kill-in-Signal-clause-continues g c =
    let at = tried c.args.m.now c.make_room.new.m c.attempt_cached.new.m c.in_ok-make_room.ensures.only c.in-Signal.ensures.only in
    room_goes_on c.args.m.now c.attempt_cached.new.m c.kill.new.m 1 at c.requires.steady.clear
    (end_continues c.attempt_cached.new.m c.kill.new.m c.args.pid c.in-Signal.signal (g.F.Files.holds c.args.files.now)
    (stores g.F.Files g.D.SwapDev c.args.files.now c.args.swap.now) (stores g.F.Files g.D.SwapDev c.kill.new.files c.kill.new.swap)
    (caller_of c.attempt_cached.new.m c.args.pid (room_steady c.args.m.now c.attempt_cached.new.m at c.requires.steady c.attempt_cached.ensures.goes_on)
    (room_lends c.args.m.now c.attempt_cached.new.m c.args.pid at c.requires.lends))
    c.in_ok-kill-in-Signal.ensures.ended)

-- Where the run stops, the sizes and images stay, and a journal is full only at its bound.

pub returns-in_err-make_room-clause-kept : goal.returns-in_err-make_room-clause-kept
returns-in_err-make_room-clause-kept g c =
    let e = err_from_is_err_and c.from_residual.result c.from_residual.ensures.1 in
    let stop = c.in_err-make_room.field-0.0 in
    rw (e.1, e.2)
    (kept_here c.args.m.now c.make_room.new.m stop c.in_err-make_room.ensures.stop (λ z. (c.in_err-make_room.ensures.full (ap (λ (t : Stop). let r : Result (Unit {0}) Stop = Err t in r) z)).0))

pub returns-in-Call-clause-kept : goal.returns-in-Call-clause-kept
returns-in-Call-clause-kept g c =
    let at = tried c.args.m.now c.make_room.new.m c.attempt_cached.new.m c.in_ok-make_room.ensures.only c.in-Call.ensures.only in
    later_kept c.call.result c.args.m.now c.attempt_cached.new.m c.call.new.m at c.call.ensures.kept

pub returns-in-Miss-clause-kept : goal.returns-in-Miss-clause-kept
returns-in-Miss-clause-kept g c =
    let at = tried c.args.m.now c.make_room.new.m c.attempt_cached.new.m c.in_ok-make_room.ensures.only c.in-Miss.ensures.only in
    later_kept c.serve_access.result c.args.m.now c.attempt_cached.new.m c.serve_access.new.m at c.serve_access.ensures.kept

pub returns-in-Below-clause-kept : goal.returns-in-Below-clause-kept
returns-in-Below-clause-kept g c =
    let at = tried c.args.m.now c.make_room.new.m c.attempt_cached.new.m c.in_ok-make_room.ensures.only c.in-Below.ensures.only in
    later_kept c.serve_access-in-Below.result c.args.m.now c.attempt_cached.new.m c.serve_access-in-Below.new.m at c.serve_access-in-Below.ensures.kept

pub returns-in_err-kill-in-Signal-clause-kept : goal.returns-in_err-kill-in-Signal-clause-kept
returns-in_err-kill-in-Signal-clause-kept g c =
    let at = tried c.args.m.now c.make_room.new.m c.attempt_cached.new.m c.in_ok-make_room.ensures.only c.in-Signal.ensures.only in
    let r = err_from_is_err_and c.from_residual-in_err-kill-in-Signal.result c.from_residual-in_err-kill-in-Signal.ensures.1 in
    rw (r.1, r.2) (later_same c.args.m.now c.attempt_cached.new.m c.kill.new.m c.in_err-kill-in-Signal.field-0.0 at
    (alive_same c.attempt_cached.new.m c.kill.new.m c.args.pid (g.F.Files.holds c.args.files.now) (stores g.F.Files g.D.SwapDev c.args.files.now c.args.swap.now)
    (stores g.F.Files g.D.SwapDev c.kill.new.files c.kill.new.swap) c.in_err-kill-in-Signal.field-0.0 c.in_err-kill-in-Signal.ensures.stops))
