-- Free extents, and the set of blocks that they make.
use Rattle.std.specs.Prelude.{◌≡◌, ℕ, ◌+◌, ◌-◌, ◌/◌, ◌%◌, ◌^◌, ◌<◌, ◌≤◌, Bool, true, false, not, ◌&&◌, ◌||◌, ◌==◌, nat_le, nat_lt, List, [], ◌∷◌, map, length, insert, remove, slice_set, slice_index_or}
use Rattle.std.specs.List.{range_with_len}
use Rattle.resource_map.specs.declared.Extent.{Extent}

-- block b lies in the extent
unfoldable pub is_in : Extent → ℕ → Bool
is_in e b = nat_le e.start b && nat_lt b (e.start + e.length)

-- block b lies in one of the extents
unfoldable pub covers : List Extent → ℕ → Bool
covers [] b = false
covers (e ∷ es) b = is_in e b || covers es b

-- for each block below size whether it lies in one of the extents
unfoldable pub free_blocks : ℕ → List Extent → List Bool
free_blocks size es = map (covers es) (range_with_len 0 size)

-- the extent has blocks, lies in one unit of 1,024 and stands after block `from`; it begins there only at a unit's start
pub record Follows (from : ℕ) (e : Extent) : Type 0 where
  pub after : from ≤ e.start
  pub apart : from ≡ e.start → from % 1024 ≡ 0
  pub not_empty : 0 < e.length
  pub one_unit : e.start / 1024 ≡ (e.start + e.length - 1) / 1024

-- each extent follows the one before, and all lie from block `from` on and below size
abbrev pub InOrder : ℕ → List Extent → ℕ → Type 0
InOrder from [] size = from ≤ size
InOrder from (e ∷ es) size = Follows from e × InOrder (e.start + e.length) es size

-- the numbers of the extent's blocks, and of the one after it, fit 32 bits
abbrev pub IsSmall : Extent → Type 0
IsSmall e = e.start + e.length < 2 ^ 32

-- two neighbours that touch, but not at a unit's start, are merged
abbrev pub joins : Extent → Extent → Bool
joins l r = (l.start + l.length == r.start) && not (r.start % 1024 == 0)

-- an extent and the one that begins where it ends, as one
abbrev pub merged : Extent → Extent → Extent
merged l r = record { start = l.start; length = l.length + r.length }

-- the extent is put in at a place, merged with the one before, the one after, or both
abbrev pub put_in : Bool → Bool → List Extent → ℕ → Extent → List Extent
put_in false false es at e = insert es at e
put_in true false es at e = slice_set es (at - 1) (merged (slice_index_or es (at - 1) e) e)
put_in false true es at e = slice_set es at (merged e (slice_index_or es at e))
put_in true true es at e =
    remove (slice_set es (at - 1) (merged (slice_index_or es (at - 1) e) (merged e (slice_index_or es at e)))) at

-- the extent is joined by the one before its place, if there is one
abbrev pub joins_left : List Extent → ℕ → Extent → Bool
joins_left es at e = nat_lt 0 at && joins (slice_index_or es (at - 1) e) e

-- the extent joins the one at its place, if there is one
abbrev pub joins_right : List Extent → ℕ → Extent → Bool
joins_right es at e = nat_lt at (length es) && joins e (slice_index_or es at e)

-- the extent is put in at its place, one with the neighbours that it joins
abbrev pub given_back : List Extent → ℕ → Extent → List Extent
given_back es at e = put_in (joins_left es at e) (joins_right es at e) es at e

-- the first n blocks of an extent are taken; nothing is left of one that has no more
abbrev pub cut_front : List Extent → ℕ → ℕ → Extent → Bool → List Extent
cut_front es at n e true = remove es at
cut_front es at n e false = slice_set es at (record { start = e.start + n; length = e.length - n })
