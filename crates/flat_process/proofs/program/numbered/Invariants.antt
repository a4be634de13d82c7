use Rattle.flat_process.proofs.Loading.{Searches}
use Rattle.flat_process.proofs.program.numbered.Given as goal

abbrev pub invariant-loop-place : goal.invariant-loop-place
invariant-loop-place l = Searches l.programs l.name l.place
