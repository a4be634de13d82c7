-- The book of who holds which blocks, as its callers see it, and what is true of its holdings.
use Rattle.std.specs.Prelude.{◌≡◌, ℕ, ◌+◌, ◌-◌, ◌*◌, ◌/◌, ◌%◌, ◌<◌, ◌≤◌, ◌⊎◌, List, [], All, AllPairs, Any, Some, IsSome, Result, Ok, Err}
use Rattle.swap_book.specs.declared.Owner.{Owner}
use Rattle.swap_book.specs.declared.Owner.TheVariants.{Data, Stack, U, Text}
use Rattle.swap_book.specs.declared.Held.{Held}
use Rattle.swap_book.specs.declared.Grown.{Grown}
use Rattle.swap_book.specs.declared.Grown.TheVariants.{Ok as AllFound, NoFit}
use Rattle.swap_book.specs.Owners.{pieces_of, MayHold}
use Rattle.swap_book.specs.Holdings.{Holdings, of_owner, lengths, block_in}
use Rattle.swap_book.specs.Placing.{more_pieces, place_all}

-- how many blocks there are, and the pieces of them that are held
pub record Book : Type 0 where
  pub size : ℕ
  pub holdings : Holdings

-- nobody holds anything
abbrev pub empty_book : ℕ → Book
empty_book size = record { size = size; holdings = [] }

-- with other holdings
abbrev pub with_holdings : Book → Holdings → Book
with_holdings b hs = record { size = b.size; holdings = hs }

-- what may be asked of `grow`: a u page has two blocks, and a text is of whole pages and holds nothing yet
abbrev pub CanGrow : List Held → Owner → ℕ → Type 0
CanGrow hs (Data sid) blocks = Unit {0}
CanGrow hs (Stack sid) blocks = Unit {0}
CanGrow hs (U pid) blocks = blocks ≡ 2
CanGrow hs (Text image) blocks = (blocks % 2 ≡ 0) × (of_owner (Text image) hs ≡ [])

-- only data and stack shrink
abbrev pub CanShrink : Owner → Type 0
CanShrink (Data sid) = Unit {0}
CanShrink (Stack sid) = Unit {0}
CanShrink (U pid) = ⊥
CanShrink (Text image) = ⊥

-- the holdings once an owner holds `blocks` blocks, or the length of the first piece for that which finds no place
abbrev pub growth_of : Book → Owner → ℕ → Result Holdings ℕ
growth_of b owner blocks = place_all b.size b.holdings (more_pieces b.holdings owner blocks)

-- what growing answers
abbrev pub answer_of : Result Holdings ℕ → Grown
answer_of (Ok hs) = AllFound
answer_of (Err n) = NoFit n

-- the book after growing: with the new holdings, or as it was where a piece finds no place
abbrev pub grown_book : Book → Result Holdings ℕ → Book
grown_book b (Ok hs) = with_holdings b hs
grown_book b (Err n) = b

-- a piece of whole pages, below the size and in one unit of 1,024 blocks
pub record IsPiece (size : ℕ) (h : Held) : Type 0 where
  pub not_empty : 0 < h.length
  pub even_start : h.start % 2 ≡ 0
  pub even_length : h.length % 2 ≡ 0
  pub within : h.start + h.length ≤ size
  pub one_unit : h.start / 1024 ≡ (h.start + h.length - 1) / 1024

-- two pieces share no block
abbrev pub IsApart : Held → Held → Type 0
IsApart g h = (g.start + g.length ≤ h.start) ⊎ (h.start + h.length ≤ g.start)

-- the holdings are pieces of which no two share a block, and each owner's are those of some number of blocks, in order
pub record IsBook (size : ℕ) (hs : Holdings) : Type 0 where
  pub pieces : All (IsPiece size) hs
  pub apart : AllPairs IsApart hs
  pub owners : (owner : Owner) → (blocks : ℕ) × (lengths owner hs ≡ pieces_of owner blocks)

-- a page's two blocks: even, below the size, and in a piece of the page's own owner
pub record IsPlace (size : ℕ) (hs : Holdings) (owner : Owner) (block : ℕ) : Type 0 where
  pub even : block % 2 ≡ 0
  pub within : block + 2 ≤ size
  pub own : Any (λ h. (h.owner ≡ owner) × (h.start ≤ block) × (block + 2 ≤ h.start + h.length)) hs

-- each page that an owner's blocks are for has a place, which is the owner's own, and two pages share no block
pub record ArePlacesApart (size : ℕ) (hs : Holdings) : Type 0 where
  pub found : (owner : Owner) (blocks v : ℕ) → lengths owner hs ≡ pieces_of owner blocks
      → MayHold owner blocks → 2 * v < blocks → IsSome (block_in hs owner v)
  pub own : (owner : Owner) (v block : ℕ) → block_in hs owner v ≡ Some block → IsPlace size hs owner block
  pub apart : (a b : Owner) (v w x y : ℕ) → block_in hs a v ≡ Some x → block_in hs b w ≡ Some y
      → ((a ≡ b) × (v ≡ w)) ⊎ ((x + 2 ≤ y) ⊎ (y + 2 ≤ x))
