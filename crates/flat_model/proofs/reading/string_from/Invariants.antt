-- the bytes so far, and what is left of the string, come to all
use Rattle.std.proofs.Common.{◌≡◌, length}
use Rattle.flat_model.specs.Calls.{string_limit}
use Rattle.flat_model.proofs.Gathering.{Spells}
use Rattle.flat_model.proofs.reading.string_from.Given as goal

abbrev pub invariant-loop-index : goal.invariant-loop-index
invariant-loop-index g l = Spells (g.M.Memory.answers l.memory) string_limit l.address l.index l.bytes.items × (length l.bytes.items ≡ l.index)
