-- A swap book by its map of free blocks and its holdings, and when these agree.
use Rattle.std.specs.Prelude.{◌≡◌, ℕ, ◌^◌, ◌<◌, not, List, length}
use Rattle.resource_map.specs.Blocks.{Blocks, is_free_block}
use Rattle.swap_book.specs.declared.Held.{Held}
use Rattle.swap_book.specs.Holdings.{is_held}
use Rattle.swap_book.specs.Book.{Book, IsBook}
use Rattle.swap_book.specs.declared.SwapBook.TheInside.{Inside}

-- the book as its callers see it: how many blocks there are, and who holds which
abbrev pub book_of : Inside → Book
book_of a = record { size = length a.map.free; holdings = a.holdings.items }

-- the free blocks of the map are those that nobody holds, and each piece may be given back
pub record Agrees (map : Blocks) (hs : List Held) : Type 0 where
  pub book : IsBook (length map.free) hs
  pub blocks : (b : ℕ) → b < length map.free → is_free_block map.free b ≡ not (is_held hs b)
  pub spare : map.spare ≡ length hs
  pub small : length map.free < 2 ^ 32

-- the map of free blocks and the holdings of the book agree
abbrev pub IsSound : Inside → Type 0
IsSound a = Agrees a.map a.holdings.items
