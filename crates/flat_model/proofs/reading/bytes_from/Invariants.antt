use Rattle.flat_model.proofs.Gathering.{Gathers}
use Rattle.flat_model.proofs.reading.bytes_from.Given as goal

-- the bytes so far, and what is left, come to all
abbrev pub invariant-loop-index : goal.invariant-loop-index
invariant-loop-index g l = Gathers (g.M.Memory.answers l.memory) l.count l.address l.index l.bytes.items
