use Rattle.io_edge.specs.WithFiles.{stores}
use Rattle.std.proofs.Common.{◌≡◌, ◌≤◌, ◌+◌, ◌-◌, ◌*◌, None}
use Rattle.flat_state.specs.Journal.{instructions_of}
use Rattle.proc_run.specs.Runs.{IsSteady}
use Rattle.machine_state.specs.Outside.{TransfersPages}
use Rattle.proc_run.specs.Stepped.{LeadsFrom}
use Rattle.vm_core.proofs.closing.close.Given as goal
use Rattle.vm_core.specs.Closing.{Closing, LinesAre}

abbrev pub invariant-loop-pid : goal.invariant-loop-pid
invariant-loop-pid g l = record {
  closes : LeadsFrom (LinesAre l.fn.m (g.F.Files.holds l.fn.files) (stores g.F.Files g.D.SwapDev l.fn.files l.fn.swap) l.fn.counted)
      (Closing l.fn.m l.m (g.F.Files.holds l.fn.files) (stores g.F.Files g.D.SwapDev l.files l.swap) l.count l.last l.idle);
  steady : IsSteady l.m;
  params : l.m.params ≡ l.fn.m.params;
  images : l.m.images ≡ l.fn.m.images;
  counted : instructions_of l.m.kernel.journal ≡ l.count;
  more : l.fn.counted ≤ l.count;
  few : l.idle ≤ 65;
  outside : TransfersPages g.F.Files g.D.SwapDev None l.fn.files l.files l.fn.swap l.swap;
}

abbrev pub decreases-loop-pid : goal.decreases-loop-pid
decreases-loop-pid g l = 66 * (l.fn.m.params.limit - l.count) + (65 - l.idle)
