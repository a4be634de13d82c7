use Rattle.io_edge.specs.WithFiles.{stores}
use Rattle.std.proofs.Common.{◌≡◌, ◌<◌, None}
use Rattle.vm_core.specs.Cores.{StandsUnderway}
use Rattle.vm_core.proofs.Going.{HasTaken}
use Rattle.machine_state.specs.Outside.{TransfersPages}
use Rattle.vm_core.proofs.schedule.take_lines.Given as goal

abbrev pub invariant-loop-e : goal.invariant-loop-e
invariant-loop-e g l = record {
  takes : HasTaken l.fn.core l.core l.line l.lines (g.F.Files.holds l.fn.files) (stores g.F.Files g.D.SwapDev l.fn.files l.fn.swap) (stores g.F.Files g.D.SwapDev l.files l.swap);
  goes_on : StandsUnderway l.core;
  below : l.core.counted < l.core.machine.params.limit;
  number : l.line ≡ l.e-index;
  params : l.core.machine.params ≡ l.fn.core.machine.params;
  images : l.core.machine.images ≡ l.fn.core.machine.images;
  outside : TransfersPages g.F.Files g.D.SwapDev None l.fn.files l.files l.fn.swap l.swap;
}
