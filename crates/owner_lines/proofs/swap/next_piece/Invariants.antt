-- The next of the pieces from this one on is found.
use Rattle.std.proofs.Common.{◌≡◌, ◌≤◌, drop, length}
use Rattle.owner_lines.specs.Pieces.{next_from}
use Rattle.owner_lines.proofs.swap.next_piece.Given as goal

abbrev pub invariant-loop-left : goal.invariant-loop-left
invariant-loop-left l = (l.left ≤ length l.holdings) × (l.next ≡ next_from l.from (drop l.left l.holdings))

abbrev pub decreases-loop-left : goal.decreases-loop-left
decreases-loop-left l = l.left
