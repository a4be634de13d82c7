use Rattle.std.proofs.Common.{◌≤◌, ℕ, List, length, take, Option}
use Rattle.io_edge.specs.Written.{Appends}
use Rattle.system_edge.proofs.out_sink.write_whole.Given as goal

-- so many of the bytes were taken
pub record Taken (bytes : List ℕ) (done : ℕ) (old new : Option (List ℕ)) : Type 0 where
  pub within : done ≤ length bytes
  pub taken : Appends old (take done bytes) new

abbrev pub invariant-loop : goal.invariant-loop
invariant-loop g l = Taken l.bytes l.done (g.O.SystemOutput.taken l.initial.output) (g.O.SystemOutput.taken l.output)
