-- What is counted so far and what is left are all, and there is room for it.
use Rattle.std.proofs.Common.{◌≡◌, ◌≤◌, ◌+◌, ◌*◌, ◌^◌, drop}
use Rattle.run_model.specs.Next.{blocks_held}
use Rattle.run_stats.proofs.look.held.Given as goal

abbrev pub invariant-loop-piece : goal.invariant-loop-piece
invariant-loop-piece l = record {
  sum : l.held + blocks_held (drop l.piece-index l.holdings) ≡ blocks_held l.holdings;
  fits : l.held ≤ 2 ^ 64 * l.piece-index;
}
