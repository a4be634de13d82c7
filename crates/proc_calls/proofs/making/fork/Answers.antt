use Rattle.std.proofs.Common.{inr, arith}
use Rattle.std.proofs.lemmas.Result.{err_from_is_err_and}
use Rattle.proc_calls.proofs.Copies.{room_for}
use Rattle.proc_calls.proofs.Forks.{fork_low, copied_behind}
use Rattle.proc_calls.proofs.making.fork.Goals as goal

pub copy_due-requires-clause-room : goal.copy_due-requires-clause-room
copy_due-requires-clause-room g c =
    let low = fork_low c.args.m.now c.enter_fork.new.m c.args.pid c.args.regs.now c.requires.calls c.in_ok-called.ensures.answer in
    λ page. room_for c.args.m.now.kernel.place c.enter_fork.new.m.kernel.place page page low.frames (c.requires.room page)

pub copy_due-requires-clause-low : goal.copy_due-requires-clause-low
copy_due-requires-clause-low g c =
    let low = fork_low c.args.m.now c.enter_fork.new.m c.args.pid c.args.regs.now c.requires.calls c.in_ok-called.ensures.answer in
    let zero = low.last in
    omega (arith, zero)

pub returns-clause-on : goal.returns-clause-on
returns-clause-on g c =
    copied_behind c.args.m.now c.enter_fork.new.m c.copy_due.new.m
    (fork_low c.args.m.now c.enter_fork.new.m c.args.pid c.args.regs.now c.requires.calls c.in_ok-called.ensures.answer) c.in_ok-copy_due.ensures.on

pub returns-in_err-copy_due-clause-stop : goal.returns-in_err-copy_due-clause-stop
returns-in_err-copy_due-clause-stop g c =
    let p = err_from_is_err_and c.from_residual-in_err-copy_due.result c.from_residual-in_err-copy_due.ensures.1 in
    rw (p.1, p.2) (inr (record { reached = c.enter_fork.new.m; far = c.in_ok-called.ensures.answer; stops = c.in_err-copy_due.ensures.copied }))
