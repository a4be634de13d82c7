use Rattle.io_edge.specs.WithFiles.{stores}
use Rattle.std.proofs.Common.{None, sym, subst}
use Rattle.std.specs.Prelude.{IfErr}
use Rattle.user_vax.specs.Program.{run}
use Rattle.flat_model.specs.Calls.{write_reply}
use Rattle.flat_model.specs.declared.calls.SystemCall.{SystemCall}
use Rattle.proc_run.specs.Calls.{own_answers, CallStops}
use Rattle.proc_run.proofs.WriteHalts.{write_told, write_outside}
use Rattle.proc_run.proofs.calling.make.Goals as goal

pub returns-in-Write-clause-stops : goal.returns-in-Write-clause-stops
returns-in-Write-clause-stops g c =
    let old = c.args.m.now in
    let new = c.write.new.m in
    let i = stores g.F.Files g.D.SwapDev c.args.files.now c.args.swap.now in
    subst (λ (call : SystemCall). IfErr c.write.result (CallStops call old new c.args.pid c.args.regs.now (g.F.Files.holds c.args.files.now) i i)) (sym c.in-Write.is)
    (write_told c.write.result (run (own_answers old c.args.pid) (write_reply c.args.regs.now)) old new c.args.pid i (c.write.ensures.stop i))

pub returns-in-Write-clause-outside : goal.returns-in-Write-clause-outside
returns-in-Write-clause-outside g c =
    let old = c.args.m.now in
    write_outside c.write.result (run (own_answers old c.args.pid) (write_reply c.args.regs.now)) old c.write.new.m c.args.pid None c.args.files.now c.args.swap.now
    g.met.F.Files.leads_nowhere g.met.D.SwapDev.leads_nowhere (c.write.ensures.stop None)
