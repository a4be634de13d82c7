-- Row after row.
use Rattle.std.proofs.Common.{codes, refl}
use Rattle.run_stats.proofs.Lines.{three_rows}
use Rattle.run_stats.proofs.texts.put_last.Goals as goal

pub returns : goal.returns
returns c =
    three_rows c.put_plain-3.result c.args.text.now.items c.put_plain.new.text.items c.put_plain-2.new.text.items c.put_plain-3.new.text.items
    (codes "start zero-fills ") (codes "swap most-held ") (codes "frames least-free ")
    c.of-fills.result _ c.args.tally.now.most_held _ c.from.result _
    c.of-fills.ensures refl c.from.ensures
    c.in_ok-put_plain.ensures c.in_ok-put_plain-2.ensures c.put_plain-3.ensures
