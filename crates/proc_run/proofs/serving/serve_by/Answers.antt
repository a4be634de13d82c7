use Rattle.io_edge.specs.WithFiles.{stores}
use Rattle.proc_run.proofs.Made.{caller_of}
use Rattle.proc_run.proofs.Served.{served_on, brought_on}
use Rattle.proc_run.proofs.serving.serve_by.Goals as goal

pub returns-in-Stops-clause-continues : goal.returns-in-Stops-clause-continues
returns-in-Stops-clause-continues g c =
    served_on c.serve.result c.args.m.now c.serve.new.m c.args.pid c.args.address c.args.write (g.F.Files.holds c.args.files.now) (stores g.F.Files g.D.SwapDev c.args.files.now c.args.swap.now)
    (stores g.F.Files g.D.SwapDev c.serve.new.files c.serve.new.swap)
    (caller_of c.args.m.now c.args.pid c.requires.steady c.requires.lends) c.serve.ensures.served

pub returns-in-Waits-clause-continues : goal.returns-in-Waits-clause-continues
returns-in-Waits-clause-continues g c =
    brought_on c.bring_in.result c.args.m.now c.bring_in.new.m c.args.pid c.args.address c.args.write (g.F.Files.holds c.args.files.now) (stores g.F.Files g.D.SwapDev c.args.files.now c.args.swap.now)
    (stores g.F.Files g.D.SwapDev c.bring_in.new.files c.bring_in.new.swap)
    (caller_of c.args.m.now c.args.pid c.requires.steady c.requires.lends) c.bring_in.ensures.served
