-- What was put so far, and the rest is left.
use Rattle.std.proofs.Common.{◌≡◌, ◌++◌, drop}
use Rattle.std.specs.List.{flat_map}
use Rattle.process_counts.specs.Tables.{deed_of}
use Rattle.run_stats.specs.Table.{process_row}
use Rattle.run_stats.proofs.texts.put_deeds.Given as goal

abbrev pub invariant-loop-head : goal.invariant-loop-head
invariant-loop-head l = record {
  text :
      l.text.items ++ flat_map (process_row (deed_of l.deeds) l.pid) (drop l.head-index l.heads)
      ≡ l.fn.text.items ++ flat_map (process_row (deed_of l.deeds) l.pid) l.heads;
}
