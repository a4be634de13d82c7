use Rattle.io_edge.specs.WithFiles.{stores}
use Rattle.std.proofs.Common.{◌+◌, ◌<◌, ◌^◌, None}
use Rattle.page_model.specs.Rank.{HasRoom, far}
use Rattle.paging_units.specs.LastMoves.{last_moves}
use Rattle.clock_hands.proofs.Forces.{ForcesSoFar}
use Rattle.paging_units.specs.Outside.{TransfersPages, Asks}
use Rattle.clock_hands.proofs.forcing.force_frame.Given as goal

-- the next unit may be made, and the units so far and what is left force the frame
abbrev pub invariant-loop-m : goal.invariant-loop-m
invariant-loop-m g l = record {
  asks : Asks l.m (g.F.Files.holds l.files) (g.D.SwapDev.blocks l.swap);
  room : HasRoom l.m.kernel.place l.locked;
  fits : last_moves l.m.kernel.journal + far l.m.kernel.place l.locked < 2 ^ 32;
  so_far : ForcesSoFar l.locked l.fn.m l.m (g.F.Files.holds l.fn.files) (g.F.Files.holds l.files) (stores g.F.Files g.D.SwapDev l.fn.files l.fn.swap) (stores g.F.Files g.D.SwapDev l.files l.swap);
  outside : TransfersPages g.F.Files g.D.SwapDev None l.fn.files l.files l.fn.swap l.swap;
}

abbrev pub decreases-loop-m : goal.decreases-loop-m
decreases-loop-m g l = far l.m.kernel.place l.locked
