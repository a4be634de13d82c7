-- Holdings: who holds which blocks of swap space, as a list of pieces in the order in which they were found.
use Rattle.std.specs.Prelude.{◌≡◌, ℕ, zero, suc, ◌+◌, ◌<◌, Bool, true, false, cond, not, ◌&&◌, ◌||◌, nat_le, nat_lt, List, [], ◌∷◌, map, filter, length, slice_get, slice_index_or, Option, Some, None}
use Rattle.resource_map.specs.Room.{lowest_room}
use Rattle.swap_book.specs.declared.Owner.{Owner}
use Rattle.swap_book.specs.declared.Held.{Held}
use Rattle.swap_book.specs.Owners.{same_owner, spot_of}

-- the pieces that are held, in the order in which they were found
abbrev pub Holdings : Type 0
Holdings = List Held

-- block b lies in the piece
unfoldable pub is_in : Held → ℕ → Bool
is_in h b = nat_le h.start b && nat_lt b (h.start + h.length)

-- somebody holds block b
unfoldable pub is_held : Holdings → ℕ → Bool
is_held [] b = false
is_held (h ∷ hs) b = is_in h b || is_held hs b

-- the lowest start from which n blocks below size lie in one unit of 1,024 and are held by nobody
unfoldable pub fit : ℕ → Holdings → ℕ → Option ℕ
fit size hs n = lowest_room (λ b. not (is_held hs b)) size n

-- an owner's pieces, in order
abbrev pub of_owner : Owner → Holdings → List Held
of_owner owner hs = filter (λ h. same_owner h.owner owner) hs

-- the lengths of an owner's pieces, in order
abbrev pub lengths : Owner → Holdings → List ℕ
lengths owner hs = map (λ h. h.length) (of_owner owner hs)

-- the holdings without the owner's pieces beyond its first `keep`
unfoldable pub kept : Owner → ℕ → Holdings → Holdings
kept owner keep [] = []
kept owner zero (h ∷ hs) = cond (same_owner h.owner owner) (kept owner zero hs) (h ∷ kept owner zero hs)
kept owner (suc n) (h ∷ hs) = h ∷ kept owner (cond (same_owner h.owner owner) n (suc n)) hs

-- the block at a distance into a piece, where there is a piece that reaches as far
abbrev pub block_at : Option Held → ℕ → Option ℕ
block_at None r = None
block_at (Some h) r = cond (nat_lt r h.length) (Some (h.start + r)) None

-- the first block of an owner's page v, where the owner has a place for it
abbrev pub block_in : Holdings → Owner → ℕ → Option ℕ
block_in hs owner v = block_at (slice_get (of_owner owner hs) (spot_of owner v).0) (spot_of owner v).1

-- the owner's last piece of the first n stands here
pub record IsLastOf (hs : List Held) (owner : Owner) (n at : ℕ) : Type 0 where
  pub within : at < n
  pub own : (d : Held) → same_owner (slice_index_or hs at d).owner owner ≡ true
  pub last : (k : ℕ) (d : Held) → at < k → k < n → same_owner (slice_index_or hs k d).owner owner ≡ false

-- where the owner's last piece of the first n stands
abbrev pub LastOf : List Held → Owner → ℕ → Option ℕ → Type 0
LastOf hs owner n None = (k : ℕ) (d : Held) → k < n → same_owner (slice_index_or hs k d).owner owner ≡ false
LastOf hs owner n (Some at) = IsLastOf hs owner n at

-- no later piece has the owner of the one here
abbrev pub IsItsOwnersLast : List Held → ℕ → Type 0
IsItsOwnersLast hs at = (k : ℕ) (d e : Held) → at < k → k < length hs → same_owner (slice_index_or hs k d).owner (slice_index_or hs at e).owner ≡ false
