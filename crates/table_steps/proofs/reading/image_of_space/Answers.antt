use Rattle.std.proofs.Common.{sym, arith}
use Rattle.table_steps.proofs.Settles.{found_image, lost_image}
use Rattle.table_steps.proofs.reading.image_of_space.Goals as goal

pub returns : goal.returns
returns c = sym (found_image c.args.tables.now c.args.sid c.in-Some.image (sym c.in-Some.ensures))

pub unreachable-requires : goal.unreachable-requires
unreachable-requires c = let e = lost_image c.args.tables.now c.args.sid (sym c.in-None.ensures) in omega (arith, c.requires)
