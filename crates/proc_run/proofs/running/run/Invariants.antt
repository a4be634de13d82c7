use Rattle.io_edge.specs.WithFiles.{stores}
use Rattle.std.proofs.Common.{◌-◌, ◌≡◌, ◌≤◌, ◌+◌, ◌*◌, None}
use Rattle.std.specs.Prelude.{IfSome}
use Rattle.flat_state.specs.Journal.{instructions_of}
use Rattle.step_units.specs.Callers.{regs_of}
use Rattle.proc_run.specs.Calls.{own_answers}
use Rattle.proc_run.specs.Runs.{IsSteady, is_now}
use Rattle.proc_run.specs.Stretch.{MissesByte}
use Rattle.proc_run.proofs.SoFar.{LedSoFar}
use Rattle.machine_state.specs.Outside.{TransfersPages}
use Rattle.proc_run.proofs.running.run.Given as goal

-- the machine goes on, and what the process did so far is units of a run
abbrev pub invariant-loop-count : goal.invariant-loop-count
invariant-loop-count g l = record {
  steady : IsSteady l.m;
  params : l.m.params ≡ l.fn.m.params;
  images : l.m.images ≡ l.fn.m.images;
  counts : instructions_of l.m.kernel.journal ≡ l.count;
  more : l.counted ≤ l.count;
  few : l.waits ≤ 32;
  so_far : LedSoFar l.fn.m l.m l.pid (is_now l.patience) l.counted l.until (g.F.Files.holds l.fn.files) (stores g.F.Files g.D.SwapDev l.fn.files l.fn.swap)
      (stores g.F.Files g.D.SwapDev l.files l.swap) l.count l.waits;
  known : IfSome l.missed (MissesByte (own_answers l.m l.pid) (regs_of l.m.kernel l.pid));
  outside : TransfersPages g.F.Files g.D.SwapDev None l.fn.files l.files l.fn.swap l.swap;
}

-- an instruction more is counted, or one page more that an instruction waits for
abbrev pub decreases-loop-count : goal.decreases-loop-count
decreases-loop-count g l = (l.until - l.count) * 33 + (32 - l.waits)
