use Rattle.std.proofs.Common.{length}
use Rattle.reference_answers.proofs.ReadLines.{HasRead}
use Rattle.reference_answers.proofs.reader.read_references.Given as goal

abbrev pub invariant-loop-rest : goal.invariant-loop-rest
invariant-loop-rest l = record { has : HasRead l.refs.items l.bytes l.rest l.line }

abbrev pub decreases-loop-rest : goal.decreases-loop-rest
decreases-loop-rest l = length l.rest
