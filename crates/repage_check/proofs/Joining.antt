-- The units of an entry make one entry of a journal at most, and so many moves of the hands.
use Rattle.std.proofs.Common.{◌≡◌, ℕ, zero, suc, ◌+◌, ◌==◌, ◌≤◌, Bool, true, false, List, [], ◌∷◌, ◌++◌, length, refl, ap, ◌∙◌, arith}
use Rattle.std.proofs.lemmas.Bool.{eqb-true}
use Rattle.std.proofs.lemmas.List.{length-append}
use Rattle.vm_facts.proofs.Tests.{eq_self}
use Rattle.vm_facts.specs.declared.entry.Entry.{Entry}
use Rattle.vm_facts.specs.declared.entry.Entry.TheVariants as entries
use Rattle.flat_state.specs.Journal.{join_by, join, append_after, append_joined, append, appended, repeated, units_with}
use Rattle.page_laws.specs.Spans.{moves}
use Rattle.vm_core.specs.LastMoves.{last_moves}
use Rattle.vm_core.proofs.LastMoves.{last_of, last_more}
use Rattle.run_laws.proofs.LongerJournals.{joined_beyond}
use Rattle.repage_check.specs.Moves.{moves_with}

-- One entry at most.

join_long : (e u : Entry) → length (join e u) ≤ 2
join_long (entries.Ran p m) (entries.Ran q n) = go (p == q)
  where
    go : (b : Bool) → length (join_by b p m q n) ≤ 2
    go true = omega arith
    go false = omega arith
join_long (entries.Hands m) (entries.Hands n) = omega arith
join_long e u = omega arith

after_long : (e : Entry) (js : List Entry) (u : Entry) → length (append_after e js u) ≤ length (e ∷ js) + 1
after_long e [] u = let l = join_long e u in omega (arith, l)
after_long e (f ∷ js) u = let l = after_long f js u in omega (arith, l)

joined_long : (js : List Entry) (u : Entry) → length (append_joined js u) ≤ length js + 1
joined_long [] u = omega arith
joined_long (e ∷ js) u = after_long e js u

plain_long : (js : List Entry) (u : Entry) → length (js ++ u ∷ []) ≤ length js + 1
plain_long js u = let l = length-append js (u ∷ []) in omega (arith, l)

pub append_long : (js : List Entry) (u : Entry) → length (append js u) ≤ length js + 1
append_long js (entries.Ran q n) = joined_long js (entries.Ran q n)
append_long js (entries.Hands n) = joined_long js (entries.Hands n)
append_long js u = plain_long js u

-- Instructions of one process.

-- a journal ends with some of them
record EndsRan (pid : ℕ) (js : List Entry) : Type 0 where
  front : List Entry
  count : ℕ
  same : js ≡ front ++ entries.Ran pid count ∷ []

join_ran : (e : Entry) (pid : ℕ) → EndsRan pid (join e (entries.Ran pid 1))
join_ran (entries.Ran q m) pid = go (q == pid) refl
  where
    go : (b : Bool) → (q == pid) ≡ b → EndsRan pid (join_by b q m pid 1)
    go true e = record { front = []; count = m + 1; same = ap (λ (n : ℕ). entries.Ran n (m + 1) ∷ []) (eqb-true q pid e) }
    go false e = record { front = entries.Ran q m ∷ []; count = 1; same = refl }
join_ran e pid = record { front = e ∷ []; count = 1; same = refl }

after_ran : (e : Entry) (js : List Entry) (pid : ℕ) → EndsRan pid (append_after e js (entries.Ran pid 1))
after_ran e [] pid = join_ran e pid
after_ran e (f ∷ js) pid =
    let r : EndsRan pid (append_after f js (entries.Ran pid 1)) = after_ran f js pid in
    record { front = e ∷ r.front; count = r.count; same = ap (λ (xs : List Entry). e ∷ xs) r.same }

ends_ran : (js : List Entry) (pid : ℕ) → EndsRan pid (append js (entries.Ran pid 1))
ends_ran [] pid = record { front = []; count = 1; same = refl }
ends_ran (e ∷ js) pid = after_ran e js pid

-- further ones go into the same entry
more_ran : (pid : ℕ) (js : List Entry) (r : EndsRan pid js)
    → append js (entries.Ran pid 1) ≡ r.front ++ entries.Ran pid (r.count + 1) ∷ []
more_ran pid js r =
    ap (λ (xs : List Entry). append_joined xs (entries.Ran pid 1)) r.same
    ∙ joined_beyond r.front (entries.Ran pid r.count) [] (entries.Ran pid 1)
    ∙ ap (λ (b : Bool). r.front ++ join_by b pid r.count pid 1) (eq_self pid)

all_ran : (n pid : ℕ) (js : List Entry) (r : EndsRan pid js) → (m : ℕ) × (appended js (repeated (entries.Ran pid 1) n []) ≡ r.front ++ entries.Ran pid m ∷ [])
all_ran zero pid js r = (r.count, r.same)
all_ran (suc n) pid js r = all_ran n pid (append js (entries.Ran pid 1)) (record { front = r.front; count = r.count + 1; same = more_ran pid js r })

ran_long : (js : List Entry) (pid n : ℕ) → length (appended js (repeated (entries.Ran pid 1) n [])) ≤ length js + 1
ran_long js pid zero = omega arith
ran_long js pid (suc n) =
    let r : EndsRan pid (append js (entries.Ran pid 1)) = ends_ran js pid in
    let all = all_ran n pid (append js (entries.Ran pid 1)) r in
    let long = append_long js (entries.Ran pid 1) in
    let same = ap (λ (xs : List Entry). length xs) all.1 in
    let was = ap (λ (xs : List Entry). length xs) r.same in
    let sum = length-append r.front (entries.Ran pid all.0 ∷ []) in
    let total = length-append r.front (entries.Ran pid r.count ∷ []) in
    omega (arith, long, same, was, sum, total)

ran_moves : (js : List Entry) (pid n : ℕ) → last_moves (appended js (repeated (entries.Ran pid 1) (suc n) [])) ≡ 0
ran_moves js pid n =
    let r : EndsRan pid (append js (entries.Ran pid 1)) = ends_ran js pid in
    let all = all_ran n pid (append js (entries.Ran pid 1)) r in
    ap last_moves all.1 ∙ last_of r.front (entries.Ran pid all.0)

-- Moves of the hands.

record EndsHands (js : List Entry) : Type 0 where
  front : List Entry
  count : ℕ
  same : js ≡ front ++ entries.Hands count ∷ []

join_hands : (e : Entry) → EndsHands (join e (entries.Hands 1))
join_hands (entries.Hands m) = record { front = []; count = m + 1; same = refl }
join_hands e = record { front = e ∷ []; count = 1; same = refl }

after_hands : (e : Entry) (js : List Entry) → EndsHands (append_after e js (entries.Hands 1))
after_hands e [] = join_hands e
after_hands e (f ∷ js) =
    let r : EndsHands (append_after f js (entries.Hands 1)) = after_hands f js in
    record { front = e ∷ r.front; count = r.count; same = ap (λ (xs : List Entry). e ∷ xs) r.same }

ends_hands : (js : List Entry) → EndsHands (append js (entries.Hands 1))
ends_hands [] = record { front = []; count = 1; same = refl }
ends_hands (e ∷ js) = after_hands e js

more_hands : (js : List Entry) (r : EndsHands js) → append js (entries.Hands 1) ≡ r.front ++ entries.Hands (r.count + 1) ∷ []
more_hands js r =
    ap (λ (xs : List Entry). append_joined xs (entries.Hands 1)) r.same ∙ joined_beyond r.front (entries.Hands r.count) [] (entries.Hands 1)

all_hands : (n : ℕ) (js : List Entry) (r : EndsHands js) → (m : ℕ) × (appended js (repeated (entries.Hands 1) n []) ≡ r.front ++ entries.Hands m ∷ [])
all_hands zero js r = (r.count, r.same)
all_hands (suc n) js r = all_hands n (append js (entries.Hands 1)) (record { front = r.front; count = r.count + 1; same = more_hands js r })

pub hands_long : (js : List Entry) (n : ℕ) → length (appended js (repeated (entries.Hands 1) n [])) ≤ length js + 1
hands_long js zero = omega arith
hands_long js (suc n) =
    let r : EndsHands (append js (entries.Hands 1)) = ends_hands js in
    let all = all_hands n (append js (entries.Hands 1)) r in
    let long = append_long js (entries.Hands 1) in
    let same = ap (λ (xs : List Entry). length xs) all.1 in
    let was = ap (λ (xs : List Entry). length xs) r.same in
    let sum = length-append r.front (entries.Hands all.0 ∷ []) in
    let total = length-append r.front (entries.Hands r.count ∷ []) in
    omega (arith, long, same, was, sum, total)

pub hands_moves : (n : ℕ) (js : List Entry) → last_moves (appended js (repeated (entries.Hands 1) n [])) ≤ last_moves js + n
hands_moves zero js = omega arith
hands_moves (suc n) js =
    let one = last_more js in
    let rest = hands_moves n (append js (entries.Hands 1)) in
    omega (arith, one, rest)

-- So many of them, and one more.

pub repeated_last : (u : Entry) (n : ℕ) (js : List Entry) → appended js (repeated u (n + 1) []) ≡ append (appended js (repeated u n [])) u
repeated_last u zero js = refl
repeated_last u (suc n) js =
    ap (λ (k : ℕ). appended js (repeated u k [])) (let e : suc n + 1 ≡ suc (n + 1) = omega arith in e) ∙ repeated_last u n (append js u)

pub ran_so_far : (js : List Entry) (pid n : ℕ) → (length (appended js (repeated (entries.Ran pid 1) n [])) ≤ length js + 1)
    × (last_moves (appended js (repeated (entries.Ran pid 1) n [])) ≤ last_moves js)
ran_so_far js pid zero = (ran_long js pid zero, omega arith)
ran_so_far js pid (suc n) = (ran_long js pid (suc n), let e = ran_moves js pid n in omega (arith, e))

-- The units of an entry.

plain_moves : (js : List Entry) (u : Entry) → moves u ≡ 0 → last_moves (js ++ u ∷ []) ≡ 0
plain_moves js u e = last_of js u ∙ e

pub entry_long : (js : List Entry) (e : Entry) → length (appended js (units_with e [])) ≤ length js + 1
entry_long js (entries.Ran pid n) = ran_long js pid n
entry_long js (entries.Hands n) = hands_long js n
entry_long js e = plain_long js e

pub entry_moves : (js : List Entry) (n : ℕ) (e : Entry) → last_moves js ≤ n → last_moves (appended js (units_with e [])) ≤ moves_with n e
entry_moves js n (entries.Hands m) l = let most = hands_moves m js in omega (arith, most, l)
entry_moves js n (entries.Ran pid zero) l = l
entry_moves js n (entries.Ran pid (suc k)) l = let e = ran_moves js pid k in omega (arith, e)
entry_moves js n (entries.Event x0) l = let e = plain_moves js (entries.Event x0) refl in omega (arith, e)
entry_moves js n (entries.Turn x0) l = let e = plain_moves js (entries.Turn x0) refl in omega (arith, e)
entry_moves js n (entries.Out x0 x1) l = let e = plain_moves js (entries.Out x0 x1) refl in omega (arith, e)
entry_moves js n (entries.Grew x0 x1) l = let e = plain_moves js (entries.Grew x0 x1) refl in omega (arith, e)
entry_moves js n (entries.Call x0 x1 x2 x3 x4) l = let e = plain_moves js (entries.Call x0 x1 x2 x3 x4) refl in omega (arith, e)
entry_moves js n (entries.Refused x0) l = let e = plain_moves js (entries.Refused x0) refl in omega (arith, e)
entry_moves js n (entries.Sleeps x0) l = let e = plain_moves js (entries.Sleeps x0) refl in omega (arith, e)
entry_moves js n (entries.Ended x0 x1) l = let e = plain_moves js (entries.Ended x0 x1) refl in omega (arith, e)
entry_moves js n (entries.Zero x0) l = let e = plain_moves js (entries.Zero x0) refl in omega (arith, e)
entry_moves js n (entries.Get x0 x1 x2) l = let e = plain_moves js (entries.Get x0 x1 x2) refl in omega (arith, e)
entry_moves js n (entries.Copy x0) l = let e = plain_moves js (entries.Copy x0) refl in omega (arith, e)
entry_moves js n (entries.Reclaim x0) l = let e = plain_moves js (entries.Reclaim x0) refl in omega (arith, e)
entry_moves js n (entries.Put x0 x1) l = let e = plain_moves js (entries.Put x0 x1) refl in omega (arith, e)
entry_moves js n entries.Done l = let e = plain_moves js entries.Done refl in omega (arith, e)
entry_moves js n (entries.SwapOut x0) l = let e = plain_moves js (entries.SwapOut x0) refl in omega (arith, e)
entry_moves js n (entries.SwapIn x0) l = let e = plain_moves js (entries.SwapIn x0) refl in omega (arith, e)
entry_moves js n (entries.Owners x0 x1 x2 x3) l = let e = plain_moves js (entries.Owners x0 x1 x2 x3) refl in omega (arith, e)
