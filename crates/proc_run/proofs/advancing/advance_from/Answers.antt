use Rattle.io_edge.specs.WithFiles.{stores}
use Rattle.std.proofs.Common.{inl, subst}
use Rattle.std.specs.Prelude.{IfSome}
use Rattle.proc_run.specs.Calls.{own_answers}
use Rattle.proc_run.specs.Runs.{is_now}
use Rattle.proc_run.specs.Stretch.{MissesByte}
use Rattle.proc_run.proofs.Attempts.{no_room}
use Rattle.proc_run.proofs.Stretched.{missed_quiet}
use Rattle.proc_run.proofs.Tried.{served_advances, served_stops}
use Rattle.proc_run.proofs.advancing.advance_from.Goals as goal

pub serve_access-requires-clause-quiet : goal.serve_access-requires-clause-quiet
serve_access-requires-clause-quiet g c =
    missed_quiet (own_answers c.args.m.now c.args.pid) c.args.before.now c.in-Some.byte
    (subst (λ o. IfSome o (MissesByte (own_answers c.args.m.now c.args.pid) c.args.before.now)) c.in-Some.is c.requires.known)

pub returns-in-Some-clause-advances : goal.returns-in-Some-clause-advances
returns-in-Some-clause-advances g c =
    let misses : MissesByte (own_answers c.args.m.now c.args.pid) c.args.before.now c.in-Some.byte =
    subst (λ o. IfSome o (MissesByte (own_answers c.args.m.now c.args.pid) c.args.before.now)) c.in-Some.is c.requires.known in
    served_advances c.args.m.now c.args.m.now c.serve_access.new.m c.args.pid (is_now c.args.patience) (g.F.Files.holds c.args.files.now)
    (stores g.F.Files g.D.SwapDev c.args.files.now c.args.swap.now)
    (stores g.F.Files g.D.SwapDev c.serve_access.new.files c.serve_access.new.swap) (no_room c.args.m.now) c.args.before.now c.requires.registers c.in-Some.byte.address c.in-Some.byte.write
    (inl misses) c.serve_access.result c.serve_access.ensures.advances

pub returns-in-Some-clause-stops : goal.returns-in-Some-clause-stops
returns-in-Some-clause-stops g c =
    let misses : MissesByte (own_answers c.args.m.now c.args.pid) c.args.before.now c.in-Some.byte =
    subst (λ o. IfSome o (MissesByte (own_answers c.args.m.now c.args.pid) c.args.before.now)) c.in-Some.is c.requires.known in
    served_stops c.args.m.now c.args.m.now c.serve_access.new.m c.args.pid (is_now c.args.patience) (g.F.Files.holds c.args.files.now) (stores g.F.Files g.D.SwapDev c.args.files.now c.args.swap.now)
    (stores g.F.Files g.D.SwapDev c.serve_access.new.files c.serve_access.new.swap) (no_room c.args.m.now) c.args.before.now c.requires.registers c.in-Some.byte.address c.in-Some.byte.write
    (inl misses) c.serve_access.result c.serve_access.ensures.stops
