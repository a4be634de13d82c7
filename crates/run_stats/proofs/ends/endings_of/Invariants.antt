-- The endings are those of the entries so far.
use Rattle.std.proofs.Common.{ℕ, take}
use Rattle.run_stats.specs.Ends.{ending_at, IsEnding}
use Rattle.run_stats.proofs.ends.endings_of.Given as goal

abbrev pub invariant-loop-entry : goal.invariant-loop-entry
invariant-loop-entry l = record { endings : (pid : ℕ) → IsEnding pid (ending_at l.endings.items pid) (take l.entry-index l.journal) }
