-- What each unit leaves of a state, and what the units count.
use Rattle.std.proofs.Common.{◌≡◌, ℕ, zero, suc, ◌+◌, List, [], ◌∷◌, ◌++◌, refl, sym, ap, ◌∙◌, arith}
use Rattle.vm_facts.specs.declared.entry.Entry.{Entry}
use Rattle.vm_facts.specs.declared.entry.Entry.TheVariants.{Event, Turn, Ran, Out, Grew, Call, Refused, Sleeps, Ended, Zero, Get, Copy, Reclaim, Hands, Put, Done, SwapOut, SwapIn, Owners}
use Rattle.swap_book.specs.Holdings.{Holdings}
use Rattle.flat_state.specs.Flat.{Inputs}
use Rattle.flat_state.specs.Journal.{append, appended, repeated, units_with, units_of, counted, instructions_of, IsUnit, AllUnits}
use Rattle.flat_state.proofs.Joins.{append_units, appended_units}
use Rattle.flat_model.specs.Asked.{held_entry, or_before, start_held}
use Rattle.run_model.specs.State.{State, start}
use Rattle.run_model.specs.After.{after, state_after, state_at, placed}

-- Counts.

pub after_count : (A : Inputs) (s : State) (u : Entry) → (after A s u).count ≡ s.count + counted u
unfolding after
after_count A s (Event a) = omega arith
after_count A s (Turn a) = omega arith
after_count A s (Ran a b) = refl
after_count A s (Out a b) = omega arith
after_count A s (Grew a b) = omega arith
after_count A s (Call a b c d e) = refl
after_count A s (Refused a) = omega arith
after_count A s (Sleeps a) = omega arith
after_count A s (Ended a b) = refl
after_count A s (Zero a) = omega arith
after_count A s (Get a b c) = omega arith
after_count A s (Copy a) = omega arith
after_count A s (Reclaim a) = omega arith
after_count A s (Hands a) = omega arith
after_count A s (Put a b) = omega arith
after_count A s Done = omega arith
after_count A s (SwapOut a) = omega arith
after_count A s (SwapIn a) = omega arith
after_count A s (Owners a b c d) = omega arith

pub units_count : (A : Inputs) (s : State) (us : List Entry) → (state_after A s us).count ≡ s.count + instructions_of us
unfolding state_after
units_count A s [] = omega arith
units_count A s (u ∷ us) = let h = units_count A (after A s u) us in let k = after_count A s u in omega arith

repeated_count : (u : Entry) (n : ℕ) (us : List Entry) → counted u ≡ 1 → instructions_of (repeated u n us) ≡ n + instructions_of us
repeated_count u zero us h = omega arith
repeated_count u (suc n) us h = let k = repeated_count u n us h in omega arith

repeated_none : (u : Entry) (n : ℕ) (us : List Entry) → counted u ≡ 0 → instructions_of (repeated u n us) ≡ instructions_of us
repeated_none u zero us h = refl
repeated_none u (suc n) us h = let k = repeated_none u n us h in omega arith

pub with_count : (e : Entry) (us : List Entry) → instructions_of (units_with e us) ≡ counted e + instructions_of us
with_count (Ran p n) us = repeated_count (Ran p 1) n us refl
with_count (Hands n) us = let k = repeated_none (Hands 1) n us refl in omega arith
with_count _ us = refl

-- a journal counts what its units count
pub count_of_units : (j : List Entry) → instructions_of (units_of j) ≡ instructions_of j
count_of_units [] = refl
count_of_units (e ∷ j) = with_count e (units_of j) ∙ ap (λ (n : ℕ). counted e + n) (count_of_units j)

pub state_count : (A : Inputs) (hs : Holdings) (j : List Entry) → (state_at A hs j).count ≡ instructions_of j
state_count A hs j = let h = units_count A (start A hs) (units_of j) in let k = count_of_units j in omega arith

-- Journals.

pub after_journal : (A : Inputs) (s : State) (u : Entry) → (after A s u).journal ≡ append s.journal u
unfolding after
after_journal A s u = refl

pub units_journal : (A : Inputs) (s : State) (us : List Entry) → (state_after A s us).journal ≡ appended s.journal us
unfolding state_after
units_journal A s [] = refl
units_journal A s (u ∷ us) = units_journal A (after A s u) us ∙ ap (λ (j : List Entry). appended j us) (after_journal A s u)

-- units after units
pub units_append : (A : Inputs) (s : State) (us vs : List Entry) → state_after A s (us ++ vs) ≡ state_after A (state_after A s us) vs
unfolding state_after
units_append A s [] vs = refl
units_append A s (u ∷ us) vs = units_append A (after A s u) us vs

one_unit : (A : Inputs) (s : State) (u : Entry) → state_after A s (u ∷ []) ≡ after A s u
unfolding state_after
one_unit A s u = refl

-- one unit more of a journal is one more of the state
pub state_append : (A : Inputs) (hs : Holdings) (j : List Entry) (u : Entry) → IsUnit u → state_at A hs (append j u) ≡ after A (state_at A hs j) u
state_append A hs j u h =
    ap (state_after A (start A hs)) (append_units j u h) ∙ units_append A (start A hs) (units_of j) (u ∷ []) ∙ one_unit A (state_at A hs j) u

-- the journal that units make leads where they lead
pub state_appended : (A : Inputs) (hs : Holdings) (us : List Entry) → AllUnits us → state_at A hs (appended [] us) ≡ state_after A (start A hs) us
state_appended A hs us h = ap (state_after A (start A hs)) (appended_units [] us h)

-- Holdings, on which nothing else rests.

pub after_holdings : (A : Inputs) (s : State) (u : Entry) → (after A s u).holdings ≡ held_entry A s.point u s.holdings
unfolding after
after_holdings A s (Event a) = refl
after_holdings A s (Turn a) = refl
after_holdings A s (Ran a b) = refl
after_holdings A s (Out a b) = refl
after_holdings A s (Grew a b) = refl
after_holdings A s (Call a b c d e) = refl
after_holdings A s (Refused a) = refl
after_holdings A s (Sleeps a) = refl
after_holdings A s (Ended a b) = refl
after_holdings A s (Zero a) = refl
after_holdings A s (Get a b c) = refl
after_holdings A s (Copy a) = refl
after_holdings A s (Reclaim a) = refl
after_holdings A s (Hands a) = refl
after_holdings A s (Put a b) = refl
after_holdings A s Done = refl
after_holdings A s (SwapOut a) = refl
after_holdings A s (SwapIn a) = refl
after_holdings A s (Owners a b c d) = refl

abbrev holding : State → Holdings → State
holding s hs = record s { holdings = hs }

other_holdings : (A : Inputs) (s : State) (hs : Holdings) (u : Entry) → after A (holding s hs) u ≡ holding (after A s u) (held_entry A s.point u hs)
unfolding after
other_holdings A s hs (Event a) = refl
other_holdings A s hs (Turn a) = refl
other_holdings A s hs (Ran a b) = refl
other_holdings A s hs (Out a b) = refl
other_holdings A s hs (Grew a b) = refl
other_holdings A s hs (Call a b c d e) = refl
other_holdings A s hs (Refused a) = refl
other_holdings A s hs (Sleeps a) = refl
other_holdings A s hs (Ended a b) = refl
other_holdings A s hs (Zero a) = refl
other_holdings A s hs (Get a b c) = refl
other_holdings A s hs (Copy a) = refl
other_holdings A s hs (Reclaim a) = refl
other_holdings A s hs (Hands a) = refl
other_holdings A s hs (Put a b) = refl
other_holdings A s hs Done = refl
other_holdings A s hs (SwapOut a) = refl
other_holdings A s hs (SwapIn a) = refl
other_holdings A s hs (Owners a b c d) = refl

units_other : (A : Inputs) (s : State) (hs : Holdings) (us : List Entry) → (state_after A (holding s hs) us).place ≡ (state_after A s us).place
unfolding state_after
units_other A s hs [] = refl
units_other A s hs (u ∷ us) =
    ap (λ (t : State). (state_after A t us).place) (other_holdings A s hs u) ∙ units_other A (after A s u) (held_entry A s.point u hs) us

-- the placement after a journal is the state's, whatever was held at the start
pub placed_is : (A : Inputs) (hs : Holdings) (j : List Entry) → (state_at A hs j).place ≡ placed A j
placed_is A hs j = sym (units_other A (start A hs) (or_before [] (start_held A)) (units_of j))
