use Rattle.kernel_tables.proofs.Writes.{marked_byte}
use Rattle.kernel_tables.proofs.tables.mark_byte.Goals as goal

pub returns-clause-slots : goal.returns-clause-slots
returns-clause-slots c =
    marked_byte c.args.core.now.slots c.put_byte.new.self.slots c.set_dirty.new.self.slots c.args.frame c.args.at c.args.byte c.requires.below c.put_byte.ensures.slots c.set_dirty.ensures.slots
