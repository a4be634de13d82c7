use Rattle.io_edge.specs.WithFiles.{stores}
use Rattle.std.proofs.Common.{None}
use Rattle.page_model.specs.PuttingOut.{put_rank}
use Rattle.swapper.proofs.PutUnits.{Puts, PutsSoFar}
use Rattle.machine_state.specs.Outside.{TransfersPages}
use Rattle.swapper.proofs.putting_out.put_all.Given as goal

-- the next unit may be made, and the units so far and those that are left put the process out
abbrev pub invariant-loop-step : goal.invariant-loop-step
invariant-loop-step g l = record {
  puts : Puts l.m (g.F.Files.holds l.files) (g.D.SwapDev.blocks l.swap) l.pid l.sid;
  so_far : PutsSoFar l.pid l.sid l.fn.m l.m (g.F.Files.holds l.fn.files) (g.F.Files.holds l.files) (stores g.F.Files g.D.SwapDev l.fn.files l.fn.swap) (stores g.F.Files g.D.SwapDev l.files l.swap);
  outside : TransfersPages g.F.Files g.D.SwapDev None l.fn.files l.files l.fn.swap l.swap;
}

abbrev pub decreases-loop-step : goal.decreases-loop-step
decreases-loop-step g l = put_rank l.m.kernel.place l.pid l.sid
