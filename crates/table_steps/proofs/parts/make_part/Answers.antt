use Rattle.std.proofs.Common.{subst}
use Rattle.page_model.specs.Placement.{Placement}
use Rattle.kernel_model.specs.HandParts.{WriteComes, PartComes}
use Rattle.kernel_tables.specs.Machine.{lists_of}
use Rattle.kernel_tables.specs.View.{placement_of}
use Rattle.table_steps.proofs.Parting.{write_may}
use Rattle.table_steps.proofs.parts.make_part.Goals as goal

pub put_out-requires-clause-may : goal.put_out-requires-clause-may
put_out-requires-clause-may c =
    let p : Placement = placement_of (lists_of c.args.tables.now) in
    let can : WriteComes p c.in-Writes.lo c.in-Writes.n = subst (PartComes p) c.in-Writes.is c.requires.can in
    write_may p c.in-Writes.lo c.number_of.result c.in-Writes.n c.number_of.ensures can
