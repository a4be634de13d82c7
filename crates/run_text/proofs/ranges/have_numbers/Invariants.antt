use Rattle.std.proofs.Common.{take}
use Rattle.run_text.specs.Transcript.{HaveNumbers}
use Rattle.run_text.proofs.ranges.have_numbers.Given as goal

abbrev pub invariant-loop-e : goal.invariant-loop-e
invariant-loop-e l = HaveNumbers (take l.e-index l.entries)
