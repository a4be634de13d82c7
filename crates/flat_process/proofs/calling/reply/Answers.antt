use Rattle.std.proofs.Common.{ℕ, ◌==◌, find, sym, ap, ◌∙◌}
use Rattle.user_vax.specs.Program.{run}
use Rattle.flat_state.specs.Space.{answers_of}
use Rattle.flat_state.specs.Change.{is_zombie_child}
use Rattle.flat_model.specs.Calls.{or_fault, reply_of, wait_by}
use Rattle.flat_model.specs.declared.calls.SystemCall.{SystemCall}
use Rattle.flat_process.proofs.Short.{write_can, exit_can}
use Rattle.flat_process.proofs.calling.reply.Goals as goal

pub returns-in-Break-clause-sound : goal.returns-in-Break-clause-sound
returns-in-Break-clause-sound c = c.or_fault-in-Break.ensures.sound c.args.programs.now (c.break_reply.ensures.sound c.args.programs.now)

pub returns-in-Wait-clause-value : goal.returns-in-Wait-clause-value
unfolding reply_of
returns-in-Wait-clause-value c = λ sid.
    c.wait_reply.ensures.value
    ∙ ap (λ (pid : ℕ). wait_by (find (λ q. q.parent == pid) c.args.list.now) (find (is_zombie_child pid) c.args.list.now) c.args.regs) c.pid-in-Wait.ensures
    ∙ sym (ap (λ (call : SystemCall). or_fault (run (answers_of c.args.space.now) (reply_of c.args.programs.now (record {
      processes = c.args.list.now;
      next_pid = c.args.next_pid;
      next_sid = sid;
    }) c.args.process.now c.args.space.now call c.args.regs))) c.in-Wait.is)

pub returns-in-Exit-clause-sound : goal.returns-in-Exit-clause-sound
returns-in-Exit-clause-sound c =
    c.or_fault.ensures.sound c.args.programs.now
    (exit_can c.args.programs.now (answers_of c.args.space.now) c.args.regs c.exit_reply.result c.exit_reply.ensures.value)

pub returns-in_ok-write_reply-in-Write-clause-sound :
    goal.returns-in_ok-write_reply-in-Write-clause-sound
returns-in_ok-write_reply-in-Write-clause-sound c =
    c.or_fault-in-Write.ensures.sound c.args.programs.now
    (write_can c.args.programs.now (answers_of c.args.space.now) c.args.regs c.in_ok-write_reply-in-Write.field-0 c.in_ok-write_reply-in-Write.ensures.value)
