use Rattle.io_edge.specs.WithFiles.{stores}
use Rattle.std.proofs.Common.{◌≡◌, inl, refl}
use Rattle.std.proofs.lemmas.Result.{err_from_is_err_and}
use Rattle.vm_facts.specs.declared.stop.Stop.TheVariants as stops
use Rattle.step_units.proofs.ProcCallsStopping.{starved_before}
use Rattle.proc_run.proofs.Served.{brought, brought_stops}
use Rattle.proc_run.proofs.Runs.{kept}
use Rattle.proc_run.proofs.serving.bring_in.Goals as goal

pub returns-in_err-touched-clause-stops : goal.returns-in_err-touched-clause-stops
returns-in_err-touched-clause-stops g c =
    let cause : c.in_err-touched.field-0.0 ≡ stops.NoMemory = let e = c.in_err-touched.ensures.cause in cc in
    let p = err_from_is_err_and c.from_residual.result c.from_residual.ensures.1 in
    rw (p.1, p.2) (inl (
      starved_before c.args.m.now c.touched_before-touched.new.m c.in_err-touched.field-0.0 c.touched_before-touched.ensures.same c.requires.steady.ready.whole cause,
      cause,
      refl,
    ))

pub returns-clause-served : goal.returns-clause-served
returns-clause-served g c =
    brought c.serve_now.result c.args.m.now c.touched_before-touched.new.m c.serve_now.new.m c.args.pid c.args.address c.args.write (g.F.Files.holds c.args.files.now)
    (stores g.F.Files g.D.SwapDev c.args.files.now c.args.swap.now)
    (stores g.F.Files g.D.SwapDev c.serve_now.new.files c.serve_now.new.swap) c.as_slice.result.now c.touched_before-touched.ensures.same
    (kept c.args.m.now (g.F.Files.holds c.args.files.now) (stores g.F.Files g.D.SwapDev c.args.files.now c.args.swap.now) c.args.pid c.args.regs.now
    c.touched_before-touched.result c.in_ok-touched.touched c.as_slice.result.now
    c.requires.registers c.as_slice.ensures.value c.in_ok-touched.ensures.made c.touched_before-touched.ensures.before)
    c.serve_now.ensures.served

pub returns-clause-stops : goal.returns-clause-stops
returns-clause-stops g c =
    brought_stops c.serve_now.result c.args.m.now c.touched_before-touched.new.m c.serve_now.new.m c.args.pid c.args.address c.args.write (g.F.Files.holds c.args.files.now)
    (stores g.F.Files g.D.SwapDev c.args.files.now c.args.swap.now)
    (stores g.F.Files g.D.SwapDev c.serve_now.new.files c.serve_now.new.swap) c.as_slice.result.now c.touched_before-touched.ensures.same
    (kept c.args.m.now (g.F.Files.holds c.args.files.now) (stores g.F.Files g.D.SwapDev c.args.files.now c.args.swap.now) c.args.pid c.args.regs.now
    c.touched_before-touched.result c.in_ok-touched.touched c.as_slice.result.now
    c.requires.registers c.as_slice.ensures.value c.in_ok-touched.ensures.made c.touched_before-touched.ensures.before)
    c.serve_now.ensures.served
