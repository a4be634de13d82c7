-- Some passed, and the rest is left.
use Rattle.std.proofs.Common.{drop}
use Rattle.run_text.specs.Text.{lines_of}
use Rattle.run_text.proofs.Putting.{Leaves}
use Rattle.run_text.proofs.text.put_lines.Given as goal

abbrev pub invariant-loop-e : goal.invariant-loop-e
invariant-loop-e g l = Leaves g.S.Sink (lines_of (drop l.e-index l.entries)) (lines_of l.entries) l.fn.out l.out
