-- The flat machine's part of a state, and what is held.
use Rattle.std.proofs.Common.{◌≡◌, List, [], ◌∷◌, Option, Some, None, Ok, refl, sym, ap, ◌∙◌, subst}
use Rattle.std.proofs.lemmas.Option.{same_Some}
use Rattle.vm_facts.specs.declared.entry.Entry.{Entry}
use Rattle.vm_facts.specs.declared.entry.Entry.TheVariants.{Event, Turn, Ran, Out, Grew, Call, Refused, Sleeps, Ended, Zero, Get, Copy, Reclaim, Hands, Put, Done, SwapOut, SwapIn, Owners}
use Rattle.swap_book.specs.Holdings.{Holdings}
use Rattle.flat_state.specs.Flat.{Inputs}
use Rattle.flat_state.specs.Journal.{append, units_of, IsUnit}
use Rattle.flat_state.proofs.Joins.{append_units}
use Rattle.flat_model.specs.Run.{Point, flat_entry, flat_units, flat_run, start_point}
use Rattle.flat_model.specs.Asked.{held_entry, held_units, held_from, held, start_held}
use Rattle.run_model.specs.State.{State, start}
use Rattle.run_model.specs.After.{after, state_after, state_at, AllFlat}
use Rattle.flat_model.proofs.Coming.{came}
use Rattle.flat_model.proofs.Folds.{units_more}
use Rattle.run_model.proofs.After.{after_holdings}

-- a flat entry leads the state's point where it leads the flat machine
pub after_point : (A : Inputs) (s : State) (u : Entry) (q : Point) → flat_entry A s.point u ≡ Some q → (after A s u).point ≡ q
unfolding after flat_entry
after_point A s (Event a) q h = same_Some s.point q h
after_point A s (Turn a) q h = same_Some s.point q h
after_point A s (Ran p a) q h = (came A s.point q p (Ran p a) refl h).leads
after_point A s (Out p a) q h = (came A s.point q p (Out p a) refl h).leads
after_point A s (Grew p a) q h = (came A s.point q p (Grew p a) refl h).leads
after_point A s (Call p a b c d) q h = (came A s.point q p (Call p a b c d) refl h).leads
after_point A s (Refused p) q h = (came A s.point q p (Refused p) refl h).leads
after_point A s (Sleeps p) q h = (came A s.point q p (Sleeps p) refl h).leads
after_point A s (Ended p a) q h = (came A s.point q p (Ended p a) refl h).leads
after_point A s (Zero a) q h = same_Some s.point q h
after_point A s (Get a b c) q h = same_Some s.point q h
after_point A s (Copy a) q h = same_Some s.point q h
after_point A s (Reclaim a) q h = same_Some s.point q h
after_point A s (Hands a) q h = same_Some s.point q h
after_point A s (Put a b) q h = same_Some s.point q h
after_point A s Done q h = same_Some s.point q h
after_point A s (SwapOut a) q h = same_Some s.point q h
after_point A s (SwapIn a) q h = same_Some s.point q h
after_point A s (Owners a b c d) q h = same_Some s.point q h

-- Where a run of the flat machine is defined, all its units are entries of it.

none_stays : (A : Inputs) (us : List Entry) (q : Point) → flat_units A None us ≡ Some q → ⊥
unfolding flat_units
none_stays A us q h = absurd cc

pub units_flat : (A : Inputs) (s : State) (us : List Entry) (q : Point) → flat_units A (Some s.point) us ≡ Some q → AllFlat A s us
unfolding flat_units
units_flat A s [] q h = tt
units_flat A s (u ∷ us) q h = go (units_flat A (after A s u) us q) (flat_entry A s.point u) refl h
  where
    go : (flat_units A (Some (after A s u).point) us ≡ Some q → AllFlat A (after A s u) us) → (o : Option Point) → flat_entry A s.point u ≡ o → flat_units A o us ≡ Some q → AllFlat A s (u ∷ us)
    go more None e k = absurd (none_stays A us q k)
    go more (Some r) e k =
        let same : (after A s u).point ≡ r = after_point A s u r e in
        (e ∙ ap (λ (x : Point). Some x) (sym same), more (subst (λ (x : Point). flat_units A (Some x) us ≡ Some q) (sym same) k))

-- units that are entries of the flat machine lead it to the state's point
pub flat_is : (A : Inputs) (s : State) (us : List Entry) → AllFlat A s us → flat_units A (Some s.point) us ≡ Some (state_after A s us).point
unfolding flat_units state_after
flat_is A s [] h = refl
flat_is A s (u ∷ us) h = ap (λ (o : Option Point). flat_units A o us) h.0 ∙ flat_is A (after A s u) us h.1

-- and what is held is what the state holds
pub held_is : (A : Inputs) (s : State) (us : List Entry) → AllFlat A s us → held_units A (Some s.point) us s.holdings ≡ (state_after A s us).holdings
unfolding state_after
held_is A s [] h = refl
held_is A s (u ∷ us) h =
    ap (λ (o : Option Point). held_units A o us (held_entry A s.point u s.holdings)) h.0
    ∙ ap (held_units A (Some (after A s u).point) us) (sym (after_holdings A s u))
    ∙ held_is A (after A s u) us h.1

-- Of journals.

module _ (A : Inputs) (hs : Holdings) (j : List Entry) where
  pub run_flat : (q : Point) → flat_run A j ≡ Some q → AllFlat A (start A hs) (units_of j)
  run_flat q h = units_flat A (start A hs) (units_of j) q h

  pub run_point : AllFlat A (start A hs) (units_of j) → flat_run A j ≡ Some (state_at A hs j).point
  run_point h = flat_is A (start A hs) (units_of j) h

  pub run_held : start_held A ≡ Ok hs → AllFlat A (start A hs) (units_of j) → held A j ≡ Ok (state_at A hs j).holdings
  run_held e h =
      ap (held_from A j) e ∙ ap (λ (x : Holdings). Ok x) (held_is A (start A hs) (units_of j) h)

one_more : (A : Inputs) (o : Option Point) (u : Entry) (q : Point) → o ≡ Some q → flat_units A o (u ∷ []) ≡ flat_entry A q u
unfolding flat_units
one_more A o u q h = subst (λ (x : Option Point). flat_units A x (u ∷ []) ≡ flat_entry A q u) (sym h) (go (flat_entry A q u))
  where
    go : (r : Option Point) → flat_units A r [] ≡ r
    go None = refl
    go (Some x) = refl

-- one unit more of a journal is one more entry of the flat machine
pub run_append : (A : Inputs) (j : List Entry) (u : Entry) (q : Point) → IsUnit u → flat_run A j ≡ Some q → flat_run A (append j u) ≡ flat_entry A q u
run_append A j u q h e =
    ap (flat_units A (Some (start_point A))) (append_units j u h) ∙ units_more A (Some (start_point A)) (units_of j) (u ∷ [])
    ∙ one_more A (flat_units A (Some (start_point A)) (units_of j)) u q e
