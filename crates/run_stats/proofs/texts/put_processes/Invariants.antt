-- The rows so far stand after the old text.
use Rattle.std.proofs.Common.{◌≡◌, ◌++◌}
use Rattle.process_counts.specs.Tables.{deed_of}
use Rattle.run_stats.specs.Sums.{sum_in}
use Rattle.run_stats.specs.Table.{lines_to, process_rows}
use Rattle.run_stats.proofs.texts.put_processes.Given as goal

abbrev pub invariant-loop-before : goal.invariant-loop-before
invariant-loop-before l = record { text : l.text.items ≡ l.fn.text.items ++ lines_to (process_rows (deed_of l.deeds) (sum_in l.tally) l.journal) l.before }
