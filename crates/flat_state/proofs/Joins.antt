-- Joining changes neither the units nor the count.
use Rattle.std.proofs.Common.{◌≡◌, ℕ, zero, suc, ◌+◌, ◌==◌, ◌≤◌, Bool, true, false, List, [], ◌∷◌, ◌++◌, length, get_or, set, refl, sym, ap, ◌∙◌, subst, append_assoc, arith, eq-eqb}
use Rattle.std.proofs.lemmas.Bool.Decides.{nat_tests}
use Rattle.std.proofs.lemmas.List.{append-nil}
use Rattle.vm_facts.specs.declared.entry.Entry.{Entry}
use Rattle.vm_facts.specs.declared.entry.Entry.TheVariants.{Event, Turn, Ran, Out, Grew, Call, Refused, Sleeps, Ended, Zero, Get, Copy, Reclaim, Hands, Put, Done, SwapOut, SwapIn, Owners}
use Rattle.flat_state.specs.Journal.{join_by, join, append_after, append_joined, append, appended, repeated, units_with, units_of, counted, instructions_of, IsPlain, IsUnit, AllUnits}

repeated_append : (u : Entry) (n : ℕ) (us vs : List Entry) → repeated u n us ++ vs ≡ repeated u n (us ++ vs)
repeated_append u zero us vs = refl
repeated_append u (suc n) us vs = ap (λ (x : List Entry). u ∷ x) (repeated_append u n us vs)

repeated_one : (u : Entry) (n : ℕ) → repeated u (n + 1) [] ≡ repeated u n (u ∷ [])
repeated_one u zero = refl
repeated_one u (suc n) = subst (λ (k : ℕ). repeated u k [] ≡ repeated u (suc n) (u ∷ [])) (let e : suc (n + 1) ≡ suc n + 1 = omega arith in e) (ap (λ (x : List Entry). u ∷ x) (repeated_one u n))

repeated_more : (u : Entry) (n : ℕ) → repeated u (n + 1) [] ≡ repeated u n [] ++ u ∷ []
repeated_more u n = repeated_one u n ∙ sym (repeated_append u n [] (u ∷ []))

with_append : (e : Entry) (us vs : List Entry) → units_with e us ++ vs ≡ units_with e (us ++ vs)
with_append (Ran p n) us vs = repeated_append (Ran p 1) n us vs
with_append (Hands n) us vs = repeated_append (Hands 1) n us vs
with_append _ us vs = refl

pub units-append : (j k : List Entry) → units_of (j ++ k) ≡ units_of j ++ units_of k
units-append [] k = refl
units-append (e ∷ j) k = ap (units_with e) (units-append j k) ∙ sym (with_append e (units_of j) (units_of k))

join_ran : (e : Entry) (q : ℕ) → units_of (join e (Ran q 1)) ≡ units_with e [] ++ Ran q 1 ∷ []
join_ran (Ran p m) q = go (p == q) refl
  where
    go : (b : Bool) → (p == q) ≡ b → units_of (join_by b p m q 1) ≡ repeated (Ran p 1) m [] ++ Ran q 1 ∷ []
    go true h =
        let e : p ≡ q = grind (arith, nat_tests) in
        repeated_more (Ran p 1) m ∙ ap (λ (x : ℕ). repeated (Ran p 1) m [] ++ Ran x 1 ∷ []) e
    go false h = sym (repeated_append (Ran p 1) m [] (Ran q 1 ∷ []))
join_ran (Hands m) q = sym (repeated_append (Hands 1) m [] (Ran q 1 ∷ []))
join_ran _ q = refl

join_hands : (e : Entry) → units_of (join e (Hands 1)) ≡ units_with e [] ++ Hands 1 ∷ []
join_hands (Ran p m) = sym (repeated_append (Ran p 1) m [] (Hands 1 ∷ []))
join_hands (Hands m) = repeated_more (Hands 1) m
join_hands _ = refl

-- an entry that joins as a unit of its own where it is last
abbrev JoinsUnit : Entry → Type 0
JoinsUnit u = (e : Entry) → units_of (join e u) ≡ units_with e [] ++ u ∷ []

after_units : (u : Entry) → JoinsUnit u → (e : Entry) (j : List Entry) → units_of (append_after e j u) ≡ units_of (e ∷ j) ++ u ∷ []
after_units u h e [] = h e
after_units u h e (f ∷ j) = ap (units_with e) (after_units u h f j) ∙ sym (with_append e (units_of (f ∷ j)) (u ∷ []))

ran_units : (j : List Entry) (q : ℕ) → units_of (append_joined j (Ran q 1)) ≡ units_of j ++ Ran q 1 ∷ []
ran_units [] q = refl
ran_units (e ∷ j) q = after_units (Ran q 1) (λ f. join_ran f q) e j

hands_units : (j : List Entry) → units_of (append_joined j (Hands 1)) ≡ units_of j ++ Hands 1 ∷ []
hands_units [] = refl
hands_units (e ∷ j) = after_units (Hands 1) join_hands e j

-- one more unit of the journal is one more of its units
pub append_units : (j : List Entry) (u : Entry) → IsUnit u → units_of (append j u) ≡ units_of j ++ u ∷ []
append_units j (Ran q n) h = subst (λ (k : ℕ). units_of (append_joined j (Ran q k)) ≡ units_of j ++ Ran q k ∷ []) (sym h) (ran_units j q)
append_units j (Hands n) h = subst (λ (k : ℕ). units_of (append_joined j (Hands k)) ≡ units_of j ++ Hands k ∷ []) (sym h) (hands_units j)
append_units j (Event a) h = units-append j (Event a ∷ [])
append_units j (Turn a) h = units-append j (Turn a ∷ [])
append_units j (Out a b) h = units-append j (Out a b ∷ [])
append_units j (Grew a b) h = units-append j (Grew a b ∷ [])
append_units j (Call a b c d e) h = units-append j (Call a b c d e ∷ [])
append_units j (Refused a) h = units-append j (Refused a ∷ [])
append_units j (Sleeps a) h = units-append j (Sleeps a ∷ [])
append_units j (Ended a b) h = units-append j (Ended a b ∷ [])
append_units j (Zero a) h = units-append j (Zero a ∷ [])
append_units j (Get a b c) h = units-append j (Get a b c ∷ [])
append_units j (Copy a) h = units-append j (Copy a ∷ [])
append_units j (Reclaim a) h = units-append j (Reclaim a ∷ [])
append_units j (Put a b) h = units-append j (Put a b ∷ [])
append_units j Done h = units-append j (Done ∷ [])
append_units j (SwapOut a) h = units-append j (SwapOut a ∷ [])
append_units j (SwapIn a) h = units-append j (SwapIn a ∷ [])
append_units j (Owners a b c d) h = units-append j (Owners a b c d ∷ [])

pub appended_units : (j us : List Entry) → AllUnits us → units_of (appended j us) ≡ units_of j ++ us
appended_units j [] h = sym (append-nil (units_of j))
appended_units j (u ∷ us) h = appended_units (append j u) us h.1 ∙ ap (λ (x : List Entry). x ++ us) (append_units j u h.0) ∙ append_assoc (units_of j) (u ∷ []) us

pub appended_append : (j us vs : List Entry) → appended j (us ++ vs) ≡ appended (appended j us) vs
appended_append j [] vs = refl
appended_append j (u ∷ us) vs = appended_append (append j u) us vs

pub append_plain : (j : List Entry) (e : Entry) → IsPlain e → append j e ≡ j ++ e ∷ []
append_plain j (Ran p n) h = absurd h
append_plain j (Hands n) h = absurd h
append_plain j _ h = refl

pub count-append : (j k : List Entry) → instructions_of (j ++ k) ≡ instructions_of j + instructions_of k
count-append [] k = omega arith
count-append (e ∷ j) k = let h = count-append j k in omega arith

-- a last entry and one that joins it count as both
join_ran_counted : (e : Entry) (q n : ℕ) → instructions_of (join e (Ran q n)) ≡ counted e + n
join_ran_counted (Ran p m) q n = by (p == q)
  where
    by : (b : Bool) → instructions_of (join_by b p m q n) ≡ m + n
    by true = omega arith
    by false = omega arith
join_ran_counted (Hands a) q n = omega arith
join_ran_counted (Event a) q n = omega arith
join_ran_counted (Turn a) q n = omega arith
join_ran_counted (Out a b) q n = omega arith
join_ran_counted (Grew a b) q n = omega arith
join_ran_counted (Call a b c d e) q n = omega arith
join_ran_counted (Refused a) q n = omega arith
join_ran_counted (Sleeps a) q n = omega arith
join_ran_counted (Ended a b) q n = omega arith
join_ran_counted (Zero a) q n = omega arith
join_ran_counted (Get a b c) q n = omega arith
join_ran_counted (Copy a) q n = omega arith
join_ran_counted (Reclaim a) q n = omega arith
join_ran_counted (Put a b) q n = omega arith
join_ran_counted Done q n = omega arith
join_ran_counted (SwapOut a) q n = omega arith
join_ran_counted (SwapIn a) q n = omega arith
join_ran_counted (Owners a b c d) q n = omega arith

join_hands_counted : (e : Entry) (n : ℕ) → instructions_of (join e (Hands n)) ≡ counted e + 0
join_hands_counted (Ran p m) n = omega arith
join_hands_counted (Hands m) n = omega arith
join_hands_counted (Event a) n = omega arith
join_hands_counted (Turn a) n = omega arith
join_hands_counted (Out a b) n = omega arith
join_hands_counted (Grew a b) n = omega arith
join_hands_counted (Call a b c d e) n = omega arith
join_hands_counted (Refused a) n = omega arith
join_hands_counted (Sleeps a) n = omega arith
join_hands_counted (Ended a b) n = omega arith
join_hands_counted (Zero a) n = omega arith
join_hands_counted (Get a b c) n = omega arith
join_hands_counted (Copy a) n = omega arith
join_hands_counted (Reclaim a) n = omega arith
join_hands_counted (Put a b) n = omega arith
join_hands_counted Done n = omega arith
join_hands_counted (SwapOut a) n = omega arith
join_hands_counted (SwapIn a) n = omega arith
join_hands_counted (Owners a b c d) n = omega arith

after_counted : (u : Entry) → ((e : Entry) → instructions_of (join e u) ≡ counted e + counted u) → (e : Entry) (j : List Entry)
    → instructions_of (append_after e j u) ≡ counted e + instructions_of j + counted u
after_counted u h e [] = let k = h e in omega arith
after_counted u h e (f ∷ j) = let k = after_counted u h f j in omega arith

joined_counted : (u : Entry) → ((e : Entry) → instructions_of (join e u) ≡ counted e + counted u) → (j : List Entry)
    → instructions_of (append_joined j u) ≡ instructions_of j + counted u
joined_counted u h [] = omega arith
joined_counted u h (e ∷ j) = after_counted u h e j

pub append_counted : (j : List Entry) (u : Entry) → instructions_of (append j u) ≡ instructions_of j + counted u
append_counted j (Ran q n) = joined_counted (Ran q n) (λ e. join_ran_counted e q n) j
append_counted j (Hands n) = joined_counted (Hands n) (λ e. join_hands_counted e n) j
append_counted j (Event a) = let h = count-append j (Event a ∷ []) in omega arith
append_counted j (Turn a) = let h = count-append j (Turn a ∷ []) in omega arith
append_counted j (Out a b) = let h = count-append j (Out a b ∷ []) in omega arith
append_counted j (Grew a b) = let h = count-append j (Grew a b ∷ []) in omega arith
append_counted j (Call a b c d e) = let h = count-append j (Call a b c d e ∷ []) in omega arith
append_counted j (Refused a) = let h = count-append j (Refused a ∷ []) in omega arith
append_counted j (Sleeps a) = let h = count-append j (Sleeps a ∷ []) in omega arith
append_counted j (Ended a b) = let h = count-append j (Ended a b ∷ []) in omega arith
append_counted j (Zero a) = let h = count-append j (Zero a ∷ []) in omega arith
append_counted j (Get a b c) = let h = count-append j (Get a b c ∷ []) in omega arith
append_counted j (Copy a) = let h = count-append j (Copy a ∷ []) in omega arith
append_counted j (Reclaim a) = let h = count-append j (Reclaim a ∷ []) in omega arith
append_counted j (Put a b) = let h = count-append j (Put a b ∷ []) in omega arith
append_counted j Done = let h = count-append j (Done ∷ []) in omega arith
append_counted j (SwapOut a) = let h = count-append j (SwapOut a ∷ []) in omega arith
append_counted j (SwapIn a) = let h = count-append j (SwapIn a ∷ []) in omega arith
append_counted j (Owners a b c d) = let h = count-append j (Owners a b c d ∷ []) in omega arith

-- A last entry that the unit joins is raised in place.
pub raise_joined : (e : Entry) (j : List Entry) (last raised u : Entry) → join last u ≡ raised ∷ [] → get_or (e ∷ j) (length j) Done ≡ last
    → set (e ∷ j) (length j) raised ≡ append_after e j u
raise_joined e [] last raised u h k = sym (ap (λ (x : Entry). join x u) k ∙ h)
raise_joined e (f ∷ j) last raised u h k = ap (λ (x : List Entry). e ∷ x) (raise_joined f j last raised u h k)

-- another last entry has it after it
pub push_joined : (e : Entry) (j : List Entry) (u : Entry) → ((last : Entry) → get_or (e ∷ j) (length j) Done ≡ last → join last u ≡ last ∷ u ∷ [])
    → e ∷ j ++ u ∷ [] ≡ append_after e j u
push_joined e [] u h = sym (h e refl)
push_joined e (f ∷ j) u h = ap (λ (x : List Entry). e ∷ x) (push_joined f j u h)

-- a last `Ran` of the process is raised in place
pub raise_last : (e : Entry) (j : List Entry) (p m n : ℕ) → get_or (e ∷ j) (length j) Done ≡ Ran p m
    → set (e ∷ j) (length j) (Ran p (m + n)) ≡ append_after e j (Ran p n)
raise_last e j p m n h = raise_joined e j (Ran p m) (Ran p (m + n)) (Ran p n) (ap (λ (b : Bool). join_by b p m p n) (eq-eqb p p refl)) h

-- another last entry has the `Ran` after it
pub push_last : (e : Entry) (j : List Entry) (p n : ℕ) → ((m : ℕ) → get_or (e ∷ j) (length j) Done ≡ Ran p m → ⊥)
    → e ∷ j ++ Ran p n ∷ [] ≡ append_after e j (Ran p n)
push_last e j p n h = push_joined e j (Ran p n) (λ last k. go last (λ m r. h m (k ∙ r)))
  where
    by : (b : Bool) (q m : ℕ) → (q == p) ≡ b → ((k : ℕ) → Ran q m ≡ Ran p k → ⊥) → join_by b q m p n ≡ Ran q m ∷ Ran p n ∷ []
    by true q m t k = absurd (k m (ap (λ (x : ℕ). Ran x m) (let e : q ≡ p = grind (arith, nat_tests) in e)))
    by false q m t k = refl

    go : (x : Entry) → ((m : ℕ) → x ≡ Ran p m → ⊥) → join x (Ran p n) ≡ x ∷ Ran p n ∷ []
    go (Ran q m) k = by (q == p) q m refl k
    go _ k = refl

-- a last `Ran` counts no more than the journal
pub last_counted : (e : Entry) (j : List Entry) (p m : ℕ) → get_or (e ∷ j) (length j) Done ≡ Ran p m → m ≤ instructions_of (e ∷ j)
last_counted e [] p m h = subst (λ (x : Entry). m ≤ counted x + 0) (sym h) (omega arith)
last_counted e (f ∷ j) p m h = let k = last_counted f j p m h in omega arith
