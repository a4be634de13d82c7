use Rattle.io_edge.specs.WithFiles.{stores}
use Rattle.std.proofs.Common.{◌≡◌, ◌-◌, ◌≤◌, []}
use Rattle.vm_facts.specs.declared.entry.Entry.TheVariants as entries
use Rattle.flat_state.specs.Journal.{repeated}
use Rattle.vm_core.specs.Stepped.{AtSome, LeadsFrom}
use Rattle.repage_check.specs.Past.{PastAt}
use Rattle.repage_check.specs.Lines.{GoesBy}
use Rattle.repage_check.proofs.Along.{AlongUnits}
use Rattle.repage_check.proofs.lines.judge_ran.Given as goal

abbrev pub invariant-loop-done : goal.invariant-loop-done
invariant-loop-done g l = record {
  told : LeadsFrom (PastAt l.fn.past l.fn.m (g.F.Files.holds l.fn.files) (stores g.F.Files g.D.SwapDev l.fn.files l.fn.swap))
      (AlongUnits (repeated (entries.Ran l.pid 1) l.times []) (repeated (entries.Ran l.pid 1) (l.times - l.done) []) l.past l.m (g.F.Files.holds l.fn.files)
      (stores g.F.Files g.D.SwapDev l.files l.swap));
  at : AtSome (PastAt l.past l.m (g.F.Files.holds l.fn.files) (stores g.F.Files g.D.SwapDev l.files l.swap));
  on : GoesBy (repeated (entries.Ran l.pid 1) l.done []) l.fn.m l.m;
  lines : l.past.lines ≤ l.fn.past.lines;
  holds : g.F.Files.holds l.files ≡ g.F.Files.holds l.fn.files;
  blocks : g.D.SwapDev.blocks l.swap ≡ g.D.SwapDev.blocks l.fn.swap;
}
