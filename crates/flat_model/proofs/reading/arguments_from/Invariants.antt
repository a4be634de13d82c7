-- the arguments so far, and what is left, come to all
use Rattle.std.proofs.Common.{◌≡◌, length}
use Rattle.flat_model.specs.Calls.{argument_limit}
use Rattle.flat_model.proofs.Listing.{Lists}
use Rattle.flat_model.proofs.reading.arguments_from.Given as goal

abbrev pub invariant-loop-index : goal.invariant-loop-index
invariant-loop-index g l = Lists (g.M.Memory.answers l.memory) argument_limit l.address l.index l.arguments × (length l.arguments ≡ l.index)
