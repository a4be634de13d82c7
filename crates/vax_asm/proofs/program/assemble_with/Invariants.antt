-- The lines so far are laid out.
use Rattle.std.proofs.Common.{◌≤◌, length}
use Rattle.vax_asm.proofs.Assembling.{Progress}
use Rattle.vax_asm.proofs.program.assemble_with.Given as goal

abbrev pub invariant-loop-rest : goal.invariant-loop-rest
invariant-loop-rest l = record {
  progress : Progress l.labels l.source l.rest l.number l.bytes.items l.earlier l.bss;
  few : l.number ≤ 4097;
  room : length l.bytes.items ≤ 65536;
}

abbrev pub decreases-loop-rest : goal.decreases-loop-rest
decreases-loop-rest l = length l.rest
