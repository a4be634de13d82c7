use Rattle.io_edge.specs.WithFiles.{stores}
use Rattle.std.proofs.Common.{◌≤◌, ◌∷◌, [], length, None}
use Rattle.vm_facts.specs.declared.page.Page.{Page}
use Rattle.page_model.specs.Rank.{HasRoom}
use Rattle.fault_fill.specs.LastMoves.{last_moves}
use Rattle.proc_calls.specs.Copying.{AreCopiesFrom}
use Rattle.proc_calls.proofs.CopiedPages.{CopiesSoFar}
use Rattle.machine_state.specs.Outside.{Asks, TransfersPages}
use Rattle.proc_calls.proofs.copying.copy_due.Given as goal

-- the next page may be copied, and the copies so far and those that are left are the whole
abbrev pub invariant-loop-child : goal.invariant-loop-child
invariant-loop-child g l = record {
  asks : Asks l.m (g.F.Files.holds l.files) (g.D.SwapDev.blocks l.swap);
  due : AreCopiesFrom l.parent l.m.kernel.place.due;
  room : (page : Page) → HasRoom l.m.kernel.place (page ∷ []);
  low : last_moves l.m.kernel.journal ≤ 1000000;
  so_far : CopiesSoFar l.fn.m l.m (g.F.Files.holds l.fn.files) (g.F.Files.holds l.files) (stores g.F.Files g.D.SwapDev l.fn.files l.fn.swap) (stores g.F.Files g.D.SwapDev l.files l.swap);
  outside : TransfersPages g.F.Files g.D.SwapDev None l.fn.files l.files l.fn.swap l.swap;
}

abbrev pub decreases-loop-child : goal.decreases-loop-child
decreases-loop-child g l = length l.m.kernel.place.due
