use Rattle.std.proofs.Common.{ℕ, Some, arith, sym, ap, ◌∙◌}
use Rattle.std.proofs.lemmas.Option.{slice_get_past}
use Rattle.swap_dmap.specs.Chunks.{pieces}
use Rattle.swap_dmap.proofs.PieceLaws.{slice_get-pieces}
use Rattle.swap_book.proofs.chunk_at.Goals as goal

pub returns-then-index-chunks_for-clause-value : goal.returns-then-index-chunks_for-clause-value
returns-then-index-chunks_for-clause-value c =
    ap (λ (n : ℕ). Some n) c.chunk.ensures ∙
    sym (slice_get-pieces c.args.blocks c.args.index (omega (arith, c.chunks_for.ensures)))

pub returns-else-index-chunks_for-clause-value : goal.returns-else-index-chunks_for-clause-value
returns-else-index-chunks_for-clause-value c = sym (slice_get_past (pieces c.args.blocks) c.args.index (omega (arith, c.chunks_for.ensures)))
