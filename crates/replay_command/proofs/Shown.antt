-- What is shown of a journal is the same run of the flat machine.
use Rattle.std.proofs.Common.{◌≡◌, ℕ, zero, suc, ◌+◌, ◌==◌, ◌<◌, Bool, true, false, List, [], ◌∷◌, Option, Some, None, refl, sym, ap, ◌∙◌, arith}
use Rattle.std.proofs.lemmas.Bool.{eqb-true}
use Rattle.vm_facts.specs.declared.entry.Entry.{Entry}
use Rattle.vm_facts.specs.declared.entry.Entry.TheVariants.{Event, Turn, Ran, Out, Grew, Call, Refused, Sleeps, Ended, Zero, Get, Copy, Reclaim, Hands, Put, Done, SwapOut, SwapIn, Owners}
use Rattle.flat_state.specs.Flat.{Inputs}
use Rattle.flat_state.specs.Journal.{repeated, units_with, units_of, counted, instructions_of}
use Rattle.flat_model.specs.Run.{Point, process_of_entry, flat_entry, flat_units, start_point, flat_run}
use Rattle.run_text.specs.Text.{is_paging, unless, without_paging, join_ran, join_before, joined}
use Rattle.run_text.specs.Transcript.{IsWithin, AreWithin}
use Rattle.flat_model.proofs.Coming.{stands}
use Rattle.replay_command.specs.Replayed.{entries_shown}

-- Joined entries have the units and the count that they had.

repeated_sum : (u : Entry) (m n : ℕ) (us : List Entry) → repeated u (m + n) us ≡ repeated u m (repeated u n us)
repeated_sum u zero n us = let e : 0 + n ≡ n = omega arith in ap (λ (k : ℕ). repeated u k us) e
repeated_sum u (suc m) n us = let e : suc m + n ≡ suc (m + n) = omega arith in ap (λ (k : ℕ). repeated u k us) e ∙ ap (λ (x : List Entry). u ∷ x) (repeated_sum u m n us)

ran_units : (b : Bool) (p m q n : ℕ) (es : List Entry) → (p == q) ≡ b
    → units_of (join_ran b p m q n es) ≡ repeated (Ran p 1) m (repeated (Ran q 1) n (units_of es))
ran_units true p m q n es e = repeated_sum (Ran p 1) m n (units_of es) ∙ ap (λ (x : ℕ). repeated (Ran p 1) m (repeated (Ran x 1) n (units_of es))) (eqb-true p q e)
ran_units false p m q n es e = refl

join_units : (e : Entry) (es : List Entry) → units_of (join_before e es) ≡ units_with e (units_of es)
join_units (Ran p m) [] = refl
join_units (Ran p m) (Ran q n ∷ es) = ran_units (p == q) p m q n es refl
join_units (Ran p m) (x ∷ es) = refl
join_units e es = refl

joined_units : (es : List Entry) → units_of (joined es) ≡ units_of es
joined_units [] = refl
joined_units (e ∷ es) = join_units e (joined es) ∙ ap (units_with e) (joined_units es)

ran_count : (b : Bool) (p m q n : ℕ) (es : List Entry) → instructions_of (join_ran b p m q n es) ≡ m + (n + instructions_of es)
ran_count true p m q n es = omega arith
ran_count false p m q n es = refl

join_count : (e : Entry) (es : List Entry) → instructions_of (join_before e es) ≡ counted e + instructions_of es
join_count (Ran p m) [] = refl
join_count (Ran p m) (Ran q n ∷ es) = ran_count (p == q) p m q n es
join_count (Ran p m) (x ∷ es) = refl
join_count e es = refl

joined_count : (es : List Entry) → instructions_of (joined es) ≡ instructions_of es
joined_count [] = refl
joined_count (e ∷ es) = let a = join_count e (joined es) in let b = joined_count es in omega arith

-- Paging entries lead the flat machine nowhere, and count nothing.

units_none : (A : Inputs) (us : List Entry) → flat_units A None us ≡ None
unfolding flat_units
units_none A us = refl

units_first : (A : Inputs) (point : Point) (u : Entry) (us : List Entry) → flat_units A (Some point) (u ∷ us) ≡ flat_units A (flat_entry A point u) us
unfolding flat_units
units_first A point u us = refl

abbrev RunAlike : Inputs → List Entry → List Entry → Type 0
RunAlike A us vs = (o : Option Point) → flat_units A o us ≡ flat_units A o vs

unit_alike : (A : Inputs) (u : Entry) (us vs : List Entry) → RunAlike A us vs → RunAlike A (u ∷ us) (u ∷ vs)
unit_alike A u us vs h None = units_none A (u ∷ us) ∙ sym (units_none A (u ∷ vs))
unit_alike A u us vs h (Some point) = units_first A point u us ∙ h (flat_entry A point u) ∙ sym (units_first A point u vs)

repeated_alike : (A : Inputs) (u : Entry) (n : ℕ) (us vs : List Entry) → RunAlike A us vs → RunAlike A (repeated u n us) (repeated u n vs)
repeated_alike A u zero us vs h = h
repeated_alike A u (suc n) us vs h = unit_alike A u (repeated u n us) (repeated u n vs) (repeated_alike A u n us vs h)

with_alike : (A : Inputs) (e : Entry) (us vs : List Entry) → RunAlike A us vs → RunAlike A (units_with e us) (units_with e vs)
with_alike A (Ran p n) us vs h = repeated_alike A (Ran p 1) n us vs h
with_alike A (Hands n) us vs h = repeated_alike A (Hands 1) n us vs h
with_alike A e us vs h = unit_alike A e us vs h

skipped : (A : Inputs) (u : Entry) (us : List Entry) → process_of_entry u ≡ None → RunAlike A us (u ∷ us)
skipped A u us e None = units_none A us ∙ sym (units_none A (u ∷ us))
skipped A u us e (Some point) = sym (units_first A point u us ∙ ap (λ (o : Option Point). flat_units A o us) (stands A point u e))

hands_skipped : (A : Inputs) (n : ℕ) (us : List Entry) → RunAlike A us (repeated (Hands 1) n us)
hands_skipped A zero us o = refl
hands_skipped A (suc n) us o = hands_skipped A n us o ∙ skipped A (Hands 1) (repeated (Hands 1) n us) refl o

paging_skipped : (A : Inputs) (e : Entry) (us : List Entry) → is_paging e ≡ true → RunAlike A us (units_with e us)
paging_skipped A (Zero q) us h = skipped A (Zero q) us refl
paging_skipped A (Get q lo n) us h = skipped A (Get q lo n) us refl
paging_skipped A (Copy q) us h = skipped A (Copy q) us refl
paging_skipped A (Reclaim q) us h = skipped A (Reclaim q) us refl
paging_skipped A (Hands n) us h = hands_skipped A n us
paging_skipped A (Put q n) us h = skipped A (Put q n) us refl
paging_skipped A Done us h = skipped A Done us refl
paging_skipped A (SwapOut pid) us h = skipped A (SwapOut pid) us refl
paging_skipped A (SwapIn pid) us h = skipped A (SwapIn pid) us refl
paging_skipped A (Owners a b m n) us h = skipped A (Owners a b m n) us refl
paging_skipped A (Event line) us h = absurd cc
paging_skipped A (Turn pid) us h = absurd cc
paging_skipped A (Ran p n) us h = absurd cc
paging_skipped A (Out p bytes) us h = absurd cc
paging_skipped A (Grew p n) us h = absurd cc
paging_skipped A (Call p n b r0 r1) us h = absurd cc
paging_skipped A (Refused p) us h = absurd cc
paging_skipped A (Sleeps p) us h = absurd cc
paging_skipped A (Ended p n) us h = absurd cc

without_alike : (A : Inputs) (es : List Entry) → RunAlike A (units_of (without_paging es)) (units_of es)
without_alike A [] = λ o. refl
without_alike A (e ∷ es) = go (is_paging e) refl (without_alike A es)
  where
    go : (b : Bool) → is_paging e ≡ b → RunAlike A (units_of (without_paging es)) (units_of es) → RunAlike A (units_of (unless b e (without_paging es))) (units_with e (units_of es))
    go true h ih = λ o. ih o ∙ paging_skipped A e (units_of es) h o
    go false h ih = with_alike A e (units_of (without_paging es)) (units_of es) ih

paging_counts : (e : Entry) → is_paging e ≡ true → counted e ≡ 0
paging_counts (Ran p n) h = absurd cc
paging_counts (Call p n b r0 r1) h = absurd cc
paging_counts (Ended p n) h = absurd cc
paging_counts e h = refl

without_count : (es : List Entry) → instructions_of (without_paging es) ≡ instructions_of es
without_count [] = refl
without_count (e ∷ es) = go (is_paging e) refl (without_count es)
  where
    go : (b : Bool) → is_paging e ≡ b → instructions_of (without_paging es) ≡ instructions_of es → instructions_of (unless b e (without_paging es)) ≡ counted e + instructions_of es
    go true h ih = let a = paging_counts e h in omega arith
    go false h ih = omega arith

-- What is shown.

pub shown_run : (traced : Bool) (A : Inputs) (journal : List Entry) → flat_run A (entries_shown traced journal) ≡ flat_run A journal
shown_run true A journal = refl
shown_run false A journal = ap (flat_units A (Some (start_point A))) (joined_units (without_paging journal)) ∙ without_alike A journal (Some (start_point A))

pub shown_count : (traced : Bool) (journal : List Entry) → instructions_of (entries_shown traced journal) ≡ instructions_of journal
shown_count true journal = refl
shown_count false journal = joined_count (without_paging journal) ∙ without_count journal

-- And its numbers have 32 bits.

without_within : (es : List Entry) → AreWithin es → AreWithin (without_paging es)
without_within [] h = h
without_within (e ∷ es) h = go (is_paging e) (without_within es h.1)
  where
    go : (b : Bool) → AreWithin (without_paging es) → AreWithin (unless b e (without_paging es))
    go true k = k
    go false k = (h.0, k)

ran_within : (b : Bool) (p m q n : ℕ) (es : List Entry) → m + (n + instructions_of es) < 4294967296 → IsWithin (Ran p m) → AreWithin (Ran q n ∷ es)
    → AreWithin (join_ran b p m q n es)
ran_within true p m q n es l h k = (((h.0.0, (omega arith, tt)), (let a = h.1 in omega arith)), k.1)
ran_within false p m q n es l h k = (h, k)

join_within : (e : Entry) (es : List Entry) → counted e + instructions_of es < 4294967296 → IsWithin e → AreWithin es → AreWithin (join_before e es)
join_within (Ran p m) [] l h k = (h, k)
join_within (Ran p m) (Ran q n ∷ es) l h k = ran_within (p == q) p m q n es l h k
join_within (Ran p m) (x ∷ es) l h k = (h, k)
join_within e es l h k = (h, k)

joined_within : (es : List Entry) → instructions_of es < 4294967296 → AreWithin es → AreWithin (joined es)
joined_within [] l h = h
joined_within (e ∷ es) l h = let c = joined_count es in join_within e (joined es) (omega arith) h.0 (joined_within es (omega arith) h.1)

pub shown_within : (traced : Bool) (journal : List Entry) → instructions_of journal < 4294967296 → AreWithin journal → AreWithin (entries_shown traced journal)
shown_within true journal l h = h
shown_within false journal l h = let c = without_count journal in joined_within (without_paging journal) (omega arith) (without_within journal h)
