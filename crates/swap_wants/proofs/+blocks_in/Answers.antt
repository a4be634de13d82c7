use Rattle.std.proofs.Common.{◌≡◌, ℕ, ◌+◌, ◌-◌, ◌<◌, sym, ap, arith}
use Rattle.swap_dmap.specs.Chunks.{chunk_start, chunk}
use Rattle.swap_dmap.proofs.ChunkLaws.{chunk_start_next}
use Rattle.swap_wants.proofs.Growing.{start_below}
use Rattle.swap_wants.proofs.+blocks_in.Goals as goal

none : (n : ℕ) → n ≡ 0 → 0 ≡ chunk_start n
unfolding chunk_start
none n e = ap chunk_start (sym e)

pub returns-then-chunks-eq0 : goal.returns-then-chunks-eq0
returns-then-chunks-eq0 t c = none c.args.chunks c.if-chunks-eq0.true

pub overflow_add-result : goal.overflow_add-result
overflow_add-result t c =
    let n : ℕ = c.args.chunks - 1 in
    let is : chunk_start (n + 1) ≡ chunk_start n + chunk n = chunk_start_next n in
    let same : n + 1 ≡ c.args.chunks = omega (arith, c.if-chunks-eq0.false) in
    let below : chunk_start (n + 1) < c.args.blocks = start_below c.args.blocks (n + 1) (omega (arith, same, c.requires)) in
    let a = c.blocks_in.ensures in
    let b = c.chunk.ensures in
    omega (arith, below, is, a, b, c.ranges.blocks.fits)

pub returns : goal.returns
returns t c =
    let n : ℕ = c.args.chunks - 1 in
    let is : chunk_start (n + 1) ≡ chunk_start n + chunk n = chunk_start_next n in
    let same : n + 1 ≡ c.args.chunks = omega (arith, c.if-chunks-eq0.false) in
    let whole : chunk_start (n + 1) ≡ chunk_start c.args.chunks = ap chunk_start same in
    let a = c.blocks_in.ensures in
    let b = c.chunk.ensures in
    omega (arith, whole, is, a, b)
