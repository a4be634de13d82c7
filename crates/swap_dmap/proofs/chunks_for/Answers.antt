use Rattle.std.proofs.Common.{arith, below_more}
use Rattle.swap_dmap.specs.Chunks.{chunk_start}
use Rattle.swap_dmap.proofs.ChunkLaws.{counted_is, chunk_least, chunk_start_next, chunk_start_least}
use Rattle.swap_dmap.proofs.chunks_for.Goals as goal

pub loop-rest-init : goal.loop-rest-init
unfolding chunk_start
loop-rest-init c = record { left = omega arith; too_few = λ k h. absurd (omega arith) }

pub overflow_add-count : goal.overflow_add-count
overflow_add-count c = omega (arith, chunk_start_least c.loop-rest.count)

pub loop-rest-smaller : goal.loop-rest-smaller
loop-rest-smaller c = omega (arith, c.chunk.ensures, chunk_least c.loop-rest.count)

pub loop-rest-preserved : goal.loop-rest-preserved
loop-rest-preserved c = record {
  left = omega (arith, c.chunk.ensures, chunk_start_next c.loop-rest.count);
  too_few = below_more _ _ c.loop-rest.invariant.too_few (omega arith);
}

pub returns : goal.returns
returns c = counted_is c.args.blocks c.loop-rest.count (omega arith) c.loop-rest.invariant.too_few
