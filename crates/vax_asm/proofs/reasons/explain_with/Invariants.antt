-- The lines so far have no reason against them.
use Rattle.std.proofs.Common.{◌≤◌, length}
use Rattle.vax_asm.proofs.Explaining.{Walked}
use Rattle.vax_asm.proofs.reasons.explain_with.Given as goal

abbrev pub invariant-loop-rest : goal.invariant-loop-rest
invariant-loop-rest l = record {
  walked : Walked l.labels l.source l.rest l.number l.at l.earlier l.bss;
  few : l.number ≤ 4097;
}

abbrev pub decreases-loop-rest : goal.decreases-loop-rest
decreases-loop-rest l = length l.rest
