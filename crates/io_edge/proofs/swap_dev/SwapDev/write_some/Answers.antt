use Rattle.io_edge.proofs.RunWrites.{first_written, first_spoiled}
use Rattle.io_edge.proofs.swap_dev.SwapDev.write_some.Goals as goal

pub returns-in-Done-clause-written : goal.returns-in-Done-clause-written
returns-in-Done-clause-written g c =
    first_written (g.Self.SwapDev.image c.args.self.now) (g.Self.SwapDev.image c.write.new.self) c.args.block c.in-Some.first.now _ c.args.pages.now
    c.in-Some.ensures.cases.0 c.in-Done.ensures.done

pub returns-in-Failed-clause-written : goal.returns-in-Failed-clause-written
returns-in-Failed-clause-written g c =
    first_spoiled (g.Self.SwapDev.image c.args.self.now) (g.Self.SwapDev.image c.write.new.self) c.args.block c.in-Some.first.now _ c.args.pages.now
    c.in-Some.ensures.cases.0 c.in-Failed.ensures.failed
