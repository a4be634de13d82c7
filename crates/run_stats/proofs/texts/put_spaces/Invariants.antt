-- The rows so far stand after the old text.
use Rattle.std.proofs.Common.{◌≡◌, ◌++◌}
use Rattle.run_stats.specs.Sums.{sum_in}
use Rattle.run_stats.specs.Table.{lines_to, space_row}
use Rattle.run_stats.proofs.texts.put_spaces.Given as goal

abbrev pub invariant-loop-before : goal.invariant-loop-before
invariant-loop-before l = record { text : l.text.items ≡ l.fn.text.items ++ lines_to (space_row (sum_in l.tally)) l.before }
