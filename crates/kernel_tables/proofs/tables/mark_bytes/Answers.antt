use Rattle.kernel_tables.proofs.Writes.{marked_bytes}
use Rattle.kernel_tables.proofs.tables.mark_bytes.Goals as goal

pub returns-clause-slots : goal.returns-clause-slots
returns-clause-slots c =
    marked_bytes c.args.core.now.slots c.put_bytes.new.self.slots c.set_dirty.new.self.slots c.args.frame c.args.at c.args.bytes.now c.requires.below
    c.put_bytes.ensures.slots c.set_dirty.ensures.slots
