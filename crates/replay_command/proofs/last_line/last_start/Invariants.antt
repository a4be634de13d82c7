use Rattle.std.proofs.Common.{◌≢◌, ℕ, ◌+◌, ◌<◌, ◌≤◌, length}
use Rattle.std.specs.Prelude.{slice_index}
use Rattle.replay_command.proofs.last_line.last_start.Given as goal

abbrev pub invariant-loop-start : goal.invariant-loop-start
invariant-loop-start l = (l.start ≤ length l.bytes) × (0 < length l.bytes → l.start < length l.bytes) × ((k : ℕ) → l.start ≤ k → k + 1 < length l.bytes → slice_index l.bytes k ≢ 10)

abbrev pub decreases-loop-start : goal.decreases-loop-start
decreases-loop-start l = l.start
