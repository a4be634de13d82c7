use Rattle.std.proofs.Common.{◌≡◌, ◌+◌, drop}
use Rattle.run_model.specs.Next.{blocks_held}
use Rattle.vm_core.proofs.owners.blocks_held.Given as goal

abbrev pub invariant-loop-piece : goal.invariant-loop-piece
invariant-loop-piece l = l.held + blocks_held (drop l.piece-index l.holdings) ≡ blocks_held l.holdings
