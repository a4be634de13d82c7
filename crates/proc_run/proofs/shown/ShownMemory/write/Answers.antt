use Rattle.proc_run.proofs.Shows.{wrote_shown}
use Rattle.proc_run.proofs.shown.ShownMemory.write.Goals as goal

pub returns : goal.returns
returns c =
    wrote_shown c.args.self.now.memory.machine c.write.new.self.machine c.args.self.now.memory.layout c.write.new.self.layout c.args.self.now.pages.now
    (record { address = c.args.address; byte = c.args.byte }) c.write.ensures c.requires
