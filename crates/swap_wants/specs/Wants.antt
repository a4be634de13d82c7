-- What may be wanted of swap at once, and where the pieces are found: for all owners, or none.
use Rattle.std.specs.Prelude.{◌≢◌, ℕ, Bool, true, false, List, [], ◌∷◌, ◌++◌, Result, Ok, is_ok}
use Rattle.swap_book.specs.declared.Owner.{Owner}
use Rattle.swap_book.specs.Holdings.{Holdings}
use Rattle.swap_book.specs.Placing.{Wanted, more_pieces, place_all}
use Rattle.swap_book.specs.Book.{Book, CanGrow, grown_book}
use Rattle.vm_facts.specs.declared.stop.NoMemory.{NoMemory}
use Rattle.swap_wants.specs.declared.Want.{Want}

-- the pieces beyond those that are held with which each owner holds its blocks
abbrev pub wanted_of : Holdings → List Want → List Wanted
wanted_of hs [] = []
wanted_of hs (w ∷ ws) = more_pieces hs w.owner w.blocks ++ wanted_of hs ws

-- the holdings once these are found, or the length of the first piece that finds no place
abbrev pub found_for : ℕ → Holdings → List Want → Result Holdings ℕ
found_for size hs ws = place_all size hs (wanted_of hs ws)

-- all these pieces find places
abbrev pub fits_for : ℕ → Holdings → List Want → Bool
fits_for size hs ws = is_ok (found_for size hs ws)

-- none of these is wanted for this owner
abbrev pub IsOther : Owner → List Want → Type 0
IsOther owner [] = Unit {0}
IsOther owner (w ∷ ws) = (owner ≢ w.owner) × IsOther owner ws

-- no owner is asked for twice
abbrev pub OwnersDiffer : List Want → Type 0
OwnersDiffer [] = Unit {0}
OwnersDiffer (w ∷ ws) = IsOther w.owner ws × OwnersDiffer ws

-- each may be asked of `grow`
abbrev pub MayGrow : Holdings → List Want → Type 0
MayGrow hs [] = Unit {0}
MayGrow hs (w ∷ ws) = CanGrow hs w.owner w.blocks × MayGrow hs ws

-- what may be wanted at once
pub record CanAsk (hs : Holdings) (ws : List Want) : Type 0 where
  pub differ : OwnersDiffer ws
  pub each : MayGrow hs ws

-- the book after a request, whose pieces it keeps where they are found, or only looked for
abbrev pub book_asked : Bool → Book → List Want → Book
book_asked true b ws = grown_book b (found_for b.size b.holdings ws)
book_asked false b ws = b

-- what is found is kept: it was asked to be, and found, and memory sufficed
abbrev pub is_kept : Bool → Result Bool NoMemory → Bool
is_kept true (Ok true) = true
is_kept _ _ = false
