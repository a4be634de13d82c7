use Rattle.std.proofs.Common.{◌≡◌, vec_len}
use Rattle.reference_bench.proofs.make_references.Given as goal

abbrev pub invariant-loop : goal.invariant-loop
invariant-loop l = vec_len l.refs ≡ l.counter
