use Rattle.std.proofs.Common.{◌≡◌, ◌≤◌, drop}
use Rattle.io_edge.specs.WithFiles.{stores}
use Rattle.vm_core.specs.Stepped.{AtSome, LeadsFrom}
use Rattle.repage_check.specs.Past.{PastAt}
use Rattle.repage_check.specs.Verdicts.{past_at_start}
use Rattle.repage_check.proofs.Along.{AlongLines}
use Rattle.repage_check.proofs.Tracing.{GoesOnFew}
use Rattle.repage_check.proofs.checking.first_misstep.Given as goal

abbrev pub invariant-loop-index : goal.invariant-loop-index
invariant-loop-index g l = record {
  told : LeadsFrom (PastAt past_at_start l.fn.m (g.F.Files.holds l.fn.files) (stores g.F.Files g.D.SwapDev l.fn.files l.fn.swap))
      (AlongLines l.lines l.index l.past l.m (g.F.Files.holds l.fn.files) (stores g.F.Files g.D.SwapDev l.files l.swap));
  at : AtSome (PastAt l.past l.m (g.F.Files.holds l.fn.files) (stores g.F.Files g.D.SwapDev l.files l.swap));
  few : GoesOnFew (drop l.index l.lines) l.index l.fn.m l.m;
  lines : l.past.lines ≤ l.index;
  holds : g.F.Files.holds l.files ≡ g.F.Files.holds l.fn.files;
  blocks : g.D.SwapDev.blocks l.swap ≡ g.D.SwapDev.blocks l.fn.swap;
}
