-- The owners of swap space: what pieces they hold, and where their pages lie in these.
use Rattle.std.specs.Prelude.{ℕ, zero, suc, ◌≤◌, Bool, true, false, ◌==◌, List, [], ◌∷◌}
use Rattle.swap_dmap.specs.Chunks.{pieces, spot, text_pieces, text_spot}
use Rattle.swap_book.specs.declared.Owner.{Owner}
use Rattle.swap_book.specs.declared.Owner.TheVariants.{Data, Stack, U, Text}

-- the two are one owner
abbrev pub same_owner : Owner → Owner → Bool
same_owner (Data a) (Data b) = a == b
same_owner (Stack a) (Stack b) = a == b
same_owner (U a) (U b) = a == b
same_owner (Text a) (Text b) = a == b
same_owner a b = false

-- the one piece of a u page
abbrev pub u_pieces : ℕ → List ℕ
u_pieces zero = []
u_pieces (suc n) = 2 ∷ []

-- the lengths of the pieces with which an owner holds a number of blocks
abbrev pub pieces_of : Owner → ℕ → List ℕ
pieces_of (Data sid) blocks = pieces blocks
pieces_of (Stack sid) blocks = pieces blocks
pieces_of (U pid) blocks = u_pieces blocks
pieces_of (Text image) blocks = text_pieces blocks

-- the piece of page v, and the block in it where the page begins; a u page is one page
abbrev pub spot_of : Owner → ℕ → ℕ × ℕ
spot_of (Data sid) v = spot v false
spot_of (Stack sid) v = spot v true
spot_of (U pid) v = (v, 0)
spot_of (Text image) v = text_spot v

-- how many blocks an owner may hold pieces for
abbrev pub MayHold : Owner → ℕ → Type 0
MayHold (Data sid) blocks = Unit {0}
MayHold (Stack sid) blocks = Unit {0}
MayHold (U pid) blocks = blocks ≤ 2
MayHold (Text image) blocks = Unit {0}
