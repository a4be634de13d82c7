use Rattle.io_edge.specs.WithFiles.{stores}
use Rattle.std.proofs.Common.{◌≡◌, Result, Ok, sym, ◌∙◌, subst}
use Rattle.std.specs.Prelude.{IfOk}
use Rattle.user_vax.specs.Program.{run}
use Rattle.user_vax.specs.declared.refused.Refused.{Refused}
use Rattle.vm_facts.specs.declared.stop.NoMemory.{NoMemory}
use Rattle.flat_state.specs.declared.change.Change.TheVariants.{Exec}
use Rattle.flat_model.specs.Calls.{execve_reply}
use Rattle.flat_model.specs.declared.calls.Reply.{Reply}
use Rattle.flat_model.specs.declared.calls.Reply.TheVariants.{Does}
use Rattle.machine_state.specs.UserMemory.{kernel_answers}
use Rattle.fault_fill.specs.Growth.{space_of_pid}
use Rattle.proc_calls.proofs.Begins.{exec_ok, exec_stops}
use Rattle.proc_calls.proofs.executing.execve.Goals as goal

pub returns-in-Ok-Does-default-Exec-clause-comes : goal.returns-in-Ok-Does-default-Exec-clause-comes
returns-in-Ok-Does-default-Exec-clause-comes g c = λ known named.
    let m = c.args.m.now in
    let x = c.in-Ok-Does-default-Exec in
    let asked = run (kernel_answers m.kernel (space_of_pid m.kernel c.args.pid)) (execve_reply known c.args.regs.now) in
    let e : c.in_ok-refused.field-0 ≡ Ok (Does c.in-Ok-Does-default-Exec.after (Exec c.in-Ok-Does-default-Exec.image c.in-Ok-Does-default-Exec.top)) = cc in
    let v = subst (λ (r : Result (Result Reply Refused) NoMemory). IfOk r (λ a. a ≡ asked)) c.in_ok-refused.ensures.made (c.read_call-asked.ensures.value known named) in
    exec_ok c.start_image.result m c.read_call-asked.new.m c.start_image.new.m c.args.pid x.image c.args.regs.now x.after x.top asked
    (g.F.Files.holds c.args.files.now) (stores g.F.Files g.D.SwapDev c.args.files.now c.args.swap.now) (stores g.F.Files g.D.SwapDev c.start_image.new.files c.start_image.new.swap)
    c.read_call-asked.ensures.same (sym v ∙ e) c.start_image.ensures.ready c.start_image.ensures.starts

pub returns-in-Ok-Does-default-Exec-clause-stops : goal.returns-in-Ok-Does-default-Exec-clause-stops
returns-in-Ok-Does-default-Exec-clause-stops g c = λ known named.
    let m = c.args.m.now in
    let x = c.in-Ok-Does-default-Exec in
    let asked = run (kernel_answers m.kernel (space_of_pid m.kernel c.args.pid)) (execve_reply known c.args.regs.now) in
    let e : c.in_ok-refused.field-0 ≡ Ok (Does c.in-Ok-Does-default-Exec.after (Exec c.in-Ok-Does-default-Exec.image c.in-Ok-Does-default-Exec.top)) = cc in
    let v = subst (λ (r : Result (Result Reply Refused) NoMemory). IfOk r (λ a. a ≡ asked)) c.in_ok-refused.ensures.made (c.read_call-asked.ensures.value known named) in
    exec_stops c.start_image.result m c.read_call-asked.new.m c.start_image.new.m c.args.pid x.image x.after x.top asked
    (g.F.Files.holds c.args.files.now) (stores g.F.Files g.D.SwapDev c.args.files.now c.args.swap.now) (stores g.F.Files g.D.SwapDev c.start_image.new.files c.start_image.new.swap)
    c.read_call-asked.ensures.same (sym v ∙ e) c.start_image.ensures.stops
