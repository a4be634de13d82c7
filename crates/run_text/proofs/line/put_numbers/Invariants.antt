-- Some passed, and the rest is left.
use Rattle.std.proofs.Common.{drop}
use Rattle.run_text.specs.Text.{parts}
use Rattle.run_text.proofs.Putting.{Leaves}
use Rattle.run_text.proofs.line.put_numbers.Given as goal

abbrev pub invariant-loop-number : goal.invariant-loop-number
invariant-loop-number g l = Leaves g.S.Sink (parts (drop l.number-index l.numbers)) (parts l.numbers) l.fn.out l.out
