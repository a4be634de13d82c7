use Rattle.io_edge.specs.WithFiles.{stores}
use Rattle.std.proofs.Common.{length, None}
use Rattle.machine_state.specs.Outside.{Asks, TransfersPages}
use Rattle.vm_core.proofs.Filled.{FilledSoFar}
use Rattle.vm_core.proofs.filling.fill_rest.Given as goal

-- what was filled so far, and what the next fill asks of the outside
abbrev pub invariant-loop-page : goal.invariant-loop-page
invariant-loop-page g l = record {
  so_far : FilledSoFar l.fn.m l.m (g.F.Files.holds l.fn.files) (g.F.Files.holds l.files) (stores g.F.Files g.D.SwapDev l.fn.files l.fn.swap) (stores g.F.Files g.D.SwapDev l.files l.swap);
  asks : Asks l.m (g.F.Files.holds l.files) (g.D.SwapDev.blocks l.swap);
  outside : TransfersPages g.F.Files g.D.SwapDev None l.fn.files l.files l.fn.swap l.swap;
}

abbrev pub decreases-loop-page : goal.decreases-loop-page
decreases-loop-page g l = length l.m.kernel.place.due
