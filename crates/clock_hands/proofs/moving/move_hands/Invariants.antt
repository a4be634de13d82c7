use Rattle.io_edge.specs.WithFiles.{stores}
use Rattle.std.proofs.Common.{◌+◌, ◌*◌, ◌<◌, ◌≤◌, ◌^◌, length, None}
use Rattle.paging_units.specs.LastMoves.{last_moves}
use Rattle.clock_hands.proofs.Moves.{MovesSoFar}
use Rattle.paging_units.specs.Outside.{TransfersPages, Asks}
use Rattle.clock_hands.proofs.moving.move_hands.Given as goal

-- the next unit may be made, and the moves so far and those that are left are the whole
abbrev pub invariant-loop-left : goal.invariant-loop-left
invariant-loop-left g l = record {
  asks : Asks l.m (g.F.Files.holds l.files) (g.D.SwapDev.blocks l.swap);
  few : l.left ≤ l.n;
  fits : last_moves l.m.kernel.journal + l.left < 2 ^ 32;
  so_far : MovesSoFar l.n l.left l.fn.m l.m (g.F.Files.holds l.fn.files) (g.F.Files.holds l.files) (stores g.F.Files g.D.SwapDev l.fn.files l.fn.swap) (stores g.F.Files g.D.SwapDev l.files l.swap);
  outside : TransfersPages g.F.Files g.D.SwapDev None l.fn.files l.files l.fn.swap l.swap;
}

-- each move may begin one transfer, of those that end
abbrev pub decreases-loop-left : goal.decreases-loop-left
decreases-loop-left g l = 2 * l.left + length l.m.kernel.place.transfers
