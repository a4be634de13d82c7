use Rattle.flat_process.proofs.Paging.{present_put}
use Rattle.flat_process.proofs.present.PagedMemory.write.Goals as goal

pub returns : goal.returns
returns c = present_put c.args.self.now.pages.items c.args.self.now.space c.write.new.self (record { address = c.args.address; byte = c.args.byte }) c.requires c.write.ensures
