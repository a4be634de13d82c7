-- The row of its count.
use Rattle.std.proofs.Common.{codes}
use Rattle.run_stats.proofs.Lines.{counted_row}
use Rattle.run_stats.proofs.texts.put_space.Goals as goal

pub returns : goal.returns
returns c =
    counted_row c.put_row.result c.args.text.now.items c.put_row.new.text.items (codes "space ") (codes " pages-written ") c.args.sid c.of-count.result _ c.of-count.ensures c.put_row.ensures
