-- How a set of a text's pages is kept as bits.
use Rattle.std.specs.Prelude.{ℕ, ◌/◌, ◌%◌, ◌==◌, Bool, List, map, slice_index}
use Rattle.std.specs.List.{range_with_len}
use Rattle.std.specs.Int.{bit_at}

-- page v is marked: its bit in the word where it stands is 1
unfoldable pub has_page : List ℕ → ℕ → Bool
has_page words v = bit_at (slice_index words (v / 32)) (v % 32) == 1

-- for each of 2,048 pages whether it is marked
unfoldable pub pages_of : List ℕ → List Bool
pages_of words = map (has_page words) (range_with_len 0 2048)
