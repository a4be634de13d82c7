use Rattle.std.proofs.Common.{refl}
use Rattle.kernel_tables.specs.declared.tables.Tables.{Tables}
use Rattle.kernel_tables.proofs.Lineage.{has_reaped}
use Rattle.kernel_tables.proofs.tables.Tables.reap.Goals as goal

pub returns : goal.returns
returns c =
    let u : Tables = record c.args.self.now { processes = c.take_out.new.processes } in
    has_reaped c.args.self.now u c.args.child c.requires.records c.requires.ended c.take_out.ensures.record c.take_out.ensures.sound refl
