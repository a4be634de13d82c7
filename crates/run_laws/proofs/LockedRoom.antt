-- Room for the pages that are locked.
use Rattle.std.proofs.Common.{ℕ, suc, ◌≤◌, Bool, true, false, List, [], ◌∷◌, length, Option, Some, None, arith}
use Rattle.flat_state.specs.Flat.{FlatState, Inputs}
use Rattle.vm_facts.specs.declared.page.Page.{Page}
use Rattle.page_model.specs.Pages.{is_valid}
use Rattle.page_model.specs.Placement.{Placement, Due, Start, CopyOf, state_of}
use Rattle.page_model.specs.Rank.{HasRoom}
use Rattle.run_model.specs.State.{State}
use Rattle.run_model.specs.Wanted.{running, touched_next, locked_by, locked}
use Rattle.run_model.specs.Snapshot.{touched_of, present_by, before_absent}
use Rattle.flat_laws.specs.Whole.{EachWhole}
use Rattle.flat_laws.proofs.Few.{touched_few, room}

-- no more pages stand before the first absent one than there are
pub before_few : (p : Placement) (qs : List Page) → length (before_absent p qs) ≤ length qs
before_few p [] = omega arith
before_few p (q ∷ qs) = go (is_valid (state_of p q)) (before_few p qs)
  where
    go : (b : Bool) → length (before_absent p qs) ≤ length qs → length (present_by b q (before_absent p qs)) ≤ suc (length qs)
    go true h = omega (arith, h)
    go false h = omega arith

next_few : (A : Inputs) (F : FlatState) (o : Option ℕ) → EachWhole F → length (touched_of A F o) ≤ 28
next_few A F None w = omega arith
next_few A F (Some pid) w = touched_few A F pid (w pid)

pub locked_few : (A : Inputs) (s : State) → EachWhole s.point.flat → length (locked A s) ≤ 28
locked_few A s w = go s.place.due
  where
    go : (due : List Due) → length (locked_by A s due) ≤ 28
    go [] = let l = before_few s.place (touched_next A s) in let m = next_few A s.point.flat (running s.mark) w in omega arith
    go (Start q ∷ due) = omega arith
    go (CopyOf child parent ∷ due) = omega arith

pub locked_room : (A : Inputs) (s : State) → EachWhole s.point.flat → 64 ≤ length s.place.holds → HasRoom s.place (locked A s)
locked_room A s w many = room s.place (locked A s) (let l = locked_few A s w in omega arith) many
