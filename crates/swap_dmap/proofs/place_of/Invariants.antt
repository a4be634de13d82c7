use Rattle.std.proofs.Common.{◌≡◌, ◌+◌, ◌*◌}
use Rattle.swap_dmap.specs.Chunks.{chunk, chunk_start}
use Rattle.swap_dmap.proofs.place_of.Given as goal

abbrev pub invariant-loop-rest : goal.invariant-loop-rest
invariant-loop-rest l = record {
  walked : l.rest + chunk_start l.index ≡ 2 * l.v;
  length : l.length ≡ chunk l.index;
}

abbrev pub decreases-loop-rest : goal.decreases-loop-rest
decreases-loop-rest l = l.rest
