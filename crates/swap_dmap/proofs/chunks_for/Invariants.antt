use Rattle.std.proofs.Common.{◌≡◌, ℕ, ◌-◌, ◌<◌}
use Rattle.swap_dmap.specs.Chunks.{chunk_start}
use Rattle.swap_dmap.proofs.chunks_for.Given as goal

abbrev pub invariant-loop-rest : goal.invariant-loop-rest
invariant-loop-rest l = record {
  left : l.rest ≡ l.blocks - chunk_start l.count;
  too_few : (k : ℕ) → k < l.count → chunk_start k < l.blocks;
}

abbrev pub decreases-loop-rest : goal.decreases-loop-rest
decreases-loop-rest l = l.rest
