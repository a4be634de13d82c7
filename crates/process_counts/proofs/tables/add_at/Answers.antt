-- Nothing is added, or one count is written anew.
use Rattle.std.proofs.Common.{◌≡◌, ℕ, ◌+◌, ◌<◌, arith}
use Rattle.process_counts.proofs.Counting.{none_added, added, grown}
use Rattle.process_counts.proofs.tables.add_at.Goals as goal
