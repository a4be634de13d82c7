-- Pieces that find their places one after another, each at the lowest.
use Rattle.std.specs.Prelude.{◌≡◌, ℕ, Bool, true, false, List, [], ◌∷◌, ◌++◌, map, drop, length, Option, Some, None, Result, Ok, Err, is_ok}
use Rattle.swap_book.specs.declared.Owner.{Owner}
use Rattle.swap_book.specs.declared.Held.{Held}
use Rattle.swap_book.specs.declared.Grown.{Grown}
use Rattle.swap_book.specs.declared.Grown.TheVariants.{Ok as AllFound, NoFit}
use Rattle.swap_book.specs.Owners.{pieces_of}
use Rattle.swap_book.specs.Holdings.{Holdings, fit, of_owner}

-- a piece that an owner wants
pub record Wanted : Type 0 where
  pub owner : Owner
  pub length : ℕ

-- a piece of this length that the owner wants
abbrev pub one : Owner → ℕ → Wanted
one owner length = record { owner = owner; length = length }

-- the owner wants pieces of these lengths
abbrev pub wanted : Owner → List ℕ → List Wanted
wanted owner lengths = map (one owner) lengths

-- the pieces beyond those it holds with which an owner holds a number of blocks
abbrev pub more_pieces : Holdings → Owner → ℕ → List Wanted
more_pieces hs owner blocks = wanted owner (drop (length (of_owner owner hs)) (pieces_of owner blocks))

-- with one more piece at the end, or the length of a piece for which no place was found
abbrev pub placed_at : List Held → Wanted → Option ℕ → Result (List Held) ℕ
placed_at hs w None = Err w.length
placed_at hs w (Some start) = Ok (hs ++ record { owner = w.owner; start = start; length = w.length } ∷ [])

-- goes on from these holdings; a length that found no place is the answer at once
abbrev pub and_then : Result (List Held) ℕ → (List Held → Result (List Held) ℕ) → Result (List Held) ℕ
and_then (Ok hs) next = next hs
and_then (Err n) next = Err n

-- the holdings once each piece has found its place after the earlier ones, or the length of the first that finds none
unfoldable pub place_all : ℕ → Holdings → List Wanted → Result Holdings ℕ
place_all size hs [] = Ok hs
place_all size hs (w ∷ ws) = and_then (placed_at hs w (fit size hs w.length)) (λ now. place_all size now ws)

-- each piece finds its place after the earlier ones
abbrev pub fits : ℕ → Holdings → List Wanted → Bool
fits size hs ws = is_ok (place_all size hs ws)

-- a piece is added at its place, or finds none
abbrev pub Adds : Bool → ℕ → List Held → Wanted → List Held → Type 0
Adds true size old w new = placed_at old w (fit size old w.length) ≡ Ok new
Adds false size old w new = (placed_at old w (fit size old w.length) ≡ Err w.length) × (new ≡ old)

-- the pieces found so far, of those that are wanted
abbrev pub Finds : Grown → Result (List Held) ℕ → List Held → Type 0
Finds AllFound outcome new = outcome ≡ Ok new
Finds (NoFit n) outcome new = outcome ≡ Err n
