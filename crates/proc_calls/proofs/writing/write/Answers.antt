use Rattle.std.proofs.Common.{◌≡◌, Result, subst}
use Rattle.std.specs.Prelude.{IfOk}
use Rattle.std.proofs.lemmas.Result.{err_from_is_err_and}
use Rattle.vm_facts.specs.declared.stop.Stop.TheVariants as stops
use Rattle.vm_facts.specs.declared.stop.NoMemory.{NoMemory}
use Rattle.user_vax.specs.Program.{run}
use Rattle.user_vax.specs.declared.refused.Refused.{Refused}
use Rattle.flat_model.specs.declared.calls.Reply.{Reply}
use Rattle.flat_model.specs.Calls.{write_reply}
use Rattle.machine_state.specs.UserMemory.{kernel_answers}
use Rattle.fault_fill.specs.Growth.{space_of_pid}
use Rattle.proc_calls.specs.Writing.{IsWriteReply}
use Rattle.proc_calls.proofs.Writes.{may_write}
use Rattle.proc_calls.proofs.Stopping.{out_starved}
use Rattle.proc_calls.proofs.writing.write.Goals as goal

pub answer-requires-clause-writes : goal.answer-requires-clause-writes
answer-requires-clause-writes c =
    let asked : c.in_ok-refused.field-0 ≡ run (kernel_answers c.args.m.now.kernel (space_of_pid c.args.m.now.kernel c.args.pid)) (write_reply c.args.regs.now) =
    subst
    (λ (r : Result (Result Reply Refused) NoMemory). IfOk r (λ a. a ≡ run (kernel_answers c.args.m.now.kernel (space_of_pid c.args.m.now.kernel c.args.pid)) (write_reply c.args.regs.now)))
    c.in_ok-refused.ensures.made c.read_bytes-asked.ensures.value in
    subst (λ (r : Result Reply Refused). IsWriteReply r) c.in-Ok.is
    (may_write (kernel_answers c.args.m.now.kernel (space_of_pid c.args.m.now.kernel c.args.pid)) c.args.regs.now c.in_ok-refused.field-0 asked)

pub returns-in_err-refused-clause-stop : goal.returns-in_err-refused-clause-stop
returns-in_err-refused-clause-stop c = λ image.
    let cause : c.in_err-refused.field-0.0 ≡ stops.NoMemory = let e = c.in_err-refused.ensures.cause in cc in
    let p = err_from_is_err_and c.from_residual.result c.from_residual.ensures.1 in
    rw (p.1, p.2)
    (out_starved c.args.m.now c.read_bytes-asked.new.m c.args.pid (run (kernel_answers c.args.m.now.kernel (space_of_pid c.args.m.now.kernel c.args.pid)) (write_reply c.args.regs.now))
    image c.in_err-refused.field-0.0 c.read_bytes-asked.ensures.same c.requires.calls.ready.whole cause)
