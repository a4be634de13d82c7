-- The numbers so far, and each row of numbers that the text consists of begins with them.
use Rattle.std.proofs.Common.{length}
use Rattle.run_text.proofs.NumberRows.{RowSoFar}
use Rattle.run_text.proofs.numbers.read_numbers.Given as goal

abbrev pub invariant-loop-rest : goal.invariant-loop-rest
invariant-loop-rest l = RowSoFar l.text l.numbers l.rest

abbrev pub decreases-loop-rest : goal.decreases-loop-rest
decreases-loop-rest l = length l.rest
