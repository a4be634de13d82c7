-- What was put so far, and the rest is left.
use Rattle.std.proofs.Common.{◌≡◌, ◌++◌, drop}
use Rattle.std.specs.List.{flat_map}
use Rattle.run_stats.specs.Sums.{sum_in}
use Rattle.run_stats.specs.Table.{paging_row}
use Rattle.run_stats.proofs.texts.put_paging.Given as goal

abbrev pub invariant-loop-head : goal.invariant-loop-head
invariant-loop-head l = record {
  text :
      l.text.items ++ flat_map (paging_row (sum_in l.tally) l.pid) (drop l.head-index l.heads)
      ≡ l.fn.text.items ++ flat_map (paging_row (sum_in l.tally) l.pid) l.heads;
}
