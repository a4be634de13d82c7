use Rattle.std.proofs.Common.{ℕ, ◌-◌, true, false, arith, sym, ap, ◌∙◌}
use Rattle.swap_dmap.specs.Chunks.{chunk_start, counted_from, spot}
use Rattle.swap_dmap.proofs.ChunkLaws.{spot_is, chunk_even, chunk_least, chunk_start_next, chunk_start_even, chunk_start_least}
use Rattle.swap_dmap.proofs.place_of.Goals as goal

pub loop-rest-init : goal.loop-rest-init
unfolding chunk_start
loop-rest-init c = record { walked = omega arith; length = c.chunk-length.ensures }

pub overflow_add-index : goal.overflow_add-index
overflow_add-index c = omega (arith, chunk_start_least c.loop-rest.index)

pub loop-rest-smaller : goal.loop-rest-smaller
loop-rest-smaller c = omega (arith, chunk_least c.loop-rest.index)

pub loop-rest-preserved : goal.loop-rest-preserved
loop-rest-preserved c = record {
  walked = omega (arith, chunk_start_next c.loop-rest.index);
  length = c.chunk-length-in-loop-rest.ensures;
}

-- what is left in the chunk is even, as the chunk's length is
pub overflow_sub-result-then-reversed : goal.overflow_sub-result-then-reversed
overflow_sub-result-then-reversed c =
    omega (arith, chunk_even c.loop-rest.index, chunk_start_even c.loop-rest.index)

pub overflow_sub-result : goal.overflow_sub-result
overflow_sub-result c = omega (arith, chunk_least c.loop-rest.index)

pub returns-then-reversed : goal.returns-then-reversed
unfolding counted_from
returns-then-reversed c =
    let i = c.loop-rest.index in
    let rest = c.loop-rest.rest in
    ap (λ (n : ℕ). (i, n - 2 - rest)) c.loop-rest.invariant.length ∙
    sym (ap (spot c.args.v) c.if-reversed.true ∙ spot_is c.args.v true i rest c.loop-rest.invariant.walked (omega arith))

pub returns-else-reversed : goal.returns-else-reversed
unfolding counted_from
returns-else-reversed c =
    let i = c.loop-rest.index in
    let rest = c.loop-rest.rest in
    sym (ap (spot c.args.v) c.if-reversed.false ∙ spot_is c.args.v false i rest c.loop-rest.invariant.walked (omega arith))
