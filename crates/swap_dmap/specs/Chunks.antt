-- The chunks and pieces of swap space that a segment holds, and where its pages lie in them.
use Rattle.std.specs.Prelude.{ℕ, zero, suc, ◌+◌, ◌-◌, ◌*◌, ◌/◌, ◌%◌, ◌^◌, min, Bool, true, false, cond, nat_lt, nat_le, List, [], ◌∷◌, ◌++◌, map, replicate}
use Rattle.std.specs.List.{range_with_len}

-- the length of chunk i in blocks
unfoldable pub chunk : ℕ → ℕ
chunk i = min (32 * 2 ^ i) 1024

-- how many blocks the chunks before chunk i have
unfoldable pub chunk_start : ℕ → ℕ
chunk_start zero = 0
chunk_start (suc i) = chunk_start i + chunk i

-- the lowest number that passes, of those below a bound; the bound where none does
unfoldable pub lowest_below : (ℕ → Bool) → ℕ → ℕ
lowest_below passes zero = 0
lowest_below passes (suc n) = cond (passes 0) 0 (suc (lowest_below (λ k. passes (suc k)) n))

-- how few chunks have at least `blocks` blocks
unfoldable pub chunks_holding : ℕ → ℕ
chunks_holding blocks = lowest_below (λ n. nat_le blocks (chunk_start n)) blocks

-- the shortest list chunk 0, chunk 1, .. that has at least `blocks` blocks
unfoldable pub pieces : ℕ → List ℕ
pieces blocks = map chunk (range_with_len 0 (chunks_holding blocks))

-- the chunk in which a walk of `blocks` blocks from the start of chunk 0 ends
unfoldable pub chunk_reached : ℕ → ℕ
chunk_reached blocks = lowest_below (λ i. nat_lt blocks (chunk_start (suc i))) blocks

-- where the two blocks of a page begin in a chunk, walked blocks from its start or from its end
unfoldable pub counted_from : Bool → ℕ → ℕ → ℕ
counted_from false length walked = walked
counted_from true length walked = length - 2 - walked

-- the chunk of page v, and the block in it where the page begins
unfoldable pub spot : ℕ → Bool → ℕ × ℕ
spot v reversed =
    let i = chunk_reached (2 * v) in
    (i, counted_from reversed (chunk i) (2 * v - chunk_start i))

-- a last piece, where there is something left for it
unfoldable pub last_piece : ℕ → List ℕ
last_piece zero = []
last_piece (suc n) = suc n ∷ []

-- the lengths of the pieces of a text of `blocks` blocks
unfoldable pub text_pieces : ℕ → List ℕ
text_pieces blocks = replicate (blocks / 1024) 1024 ++ last_piece (blocks % 1024)

-- the piece of page v of a text, and the block in it where the page begins
unfoldable pub text_spot : ℕ → ℕ × ℕ
text_spot v = (2 * v / 1024, 2 * v % 1024)
