-- What was put so far, and the rest is left.
use Rattle.std.proofs.Common.{◌≡◌, ◌++◌, drop}
use Rattle.std.specs.List.{flat_map}
use Rattle.run_stats.specs.Rows.{ended_row}
use Rattle.run_stats.proofs.texts.put_all_ends.Given as goal

abbrev pub invariant-loop-entry : goal.invariant-loop-entry
invariant-loop-entry l = record { text : l.text.items ++ flat_map (ended_row l.pid) (drop l.entry-index l.journal) ≡ l.fn.text.items ++ flat_map (ended_row l.pid) l.journal }
