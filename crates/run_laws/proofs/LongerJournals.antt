-- Journals that get longer, unit by unit.
use Rattle.std.proofs.Common.{◌≡◌, ℕ, suc, ◌+◌, ◌==◌, ◌<◌, ◌≤◌, Bool, true, false, List, [], ◌∷◌, ◌++◌, length, refl, ap, ◌∙◌, append_assoc, arith}
use Rattle.std.proofs.lemmas.List.{length-append}
use Rattle.vm_facts.specs.declared.entry.Entry.{Entry}
use Rattle.vm_facts.specs.declared.entry.Entry.TheVariants.{Ran, Hands}
use Rattle.flat_state.specs.Journal.{join_by, join, append_after, append_joined, append, appended}

-- the other journal goes on behind the one by an entry at least
abbrev pub Behind : List Entry → List Entry → Type 0
Behind journal more = (x : Entry) × (rest : List Entry) × (more ≡ journal ++ x ∷ rest)

join_one : (b : Bool) (p m q n : ℕ) → 1 < length (join_by b p m q n) → join_by b p m q n ≡ Ran p m ∷ Ran q n ∷ []
join_one true p m q n long = absurd (omega (arith, long))
join_one false p m q n long = refl

join_two : (e u : Entry) → 1 < length (join e u) → join e u ≡ e ∷ u ∷ []
join_two (Ran p m) (Ran q n) long = join_one (p == q) p m q n long
join_two (Hands m) (Hands n) long = absurd (omega (arith, long))
join_two (Ran p m) (Hands n) long = refl
join_two (Hands m) (Ran q n) long = refl
join_two _ _ long = refl

after_two : (e : Entry) (journal : List Entry) (u : Entry) → suc (length journal) < length (append_after e journal u)
    → append_after e journal u ≡ (e ∷ journal) ++ u ∷ []
after_two e [] u long = join_two e u long
after_two e (f ∷ journal) u long = ap (λ (js : List Entry). e ∷ js) (after_two f journal u (omega (arith, long)))

joined_two : (journal : List Entry) (u : Entry) → length journal < length (append_joined journal u) → append_joined journal u ≡ journal ++ u ∷ []
joined_two [] u long = refl
joined_two (e ∷ journal) u long = after_two e journal u long

-- a unit that makes a journal longer stands behind it
stands_behind : (journal : List Entry) (u : Entry) → length journal < length (append journal u) → append journal u ≡ journal ++ u ∷ []
stands_behind journal (Ran q n) long = joined_two journal (Ran q n) long
stands_behind journal (Hands n) long = joined_two journal (Hands n) long
stands_behind journal _ long = refl

after_beyond : (e : Entry) (journal : List Entry) (x : Entry) (rest : List Entry) (u : Entry)
    → append_after e (journal ++ x ∷ rest) u ≡ (e ∷ journal) ++ append_after x rest u
after_beyond e [] x rest u = refl
after_beyond e (f ∷ journal) x rest u = ap (λ (js : List Entry). e ∷ js) (after_beyond f journal x rest u)

pub joined_beyond : (journal : List Entry) (x : Entry) (rest : List Entry) (u : Entry)
    → append_joined (journal ++ x ∷ rest) u ≡ journal ++ append_after x rest u
joined_beyond [] x rest u = refl
joined_beyond (e ∷ journal) x rest u = after_beyond e journal x rest u

joins_some : (b : Bool) (p m q n : ℕ) → (y : Entry) × (ys : List Entry) × (join_by b p m q n ≡ y ∷ ys)
joins_some true p m q n = (Ran p (m + n), [], refl)
joins_some false p m q n = (Ran p m, Ran q n ∷ [], refl)

join_some : (e u : Entry) → (y : Entry) × (ys : List Entry) × (join e u ≡ y ∷ ys)
join_some (Ran p m) (Ran q n) = joins_some (p == q) p m q n
join_some (Hands m) (Hands n) = (Hands (m + n), [], refl)
join_some (Ran p m) (Hands n) = (Ran p m, Hands n ∷ [], refl)
join_some (Hands m) (Ran q n) = (Hands m, Ran q n ∷ [], refl)
join_some e u = (e, u ∷ [], refl)

after_some : (x : Entry) (rest : List Entry) (u : Entry) → (y : Entry) × (ys : List Entry) × (append_after x rest u ≡ y ∷ ys)
after_some x [] u = join_some x u
after_some x (f ∷ rest) u = (x, append_after f rest u, refl)

joined_behind : (journal more : List Entry) (u : Entry) → Behind journal more → Behind journal (append_joined more u)
joined_behind journal more u (x, rest, e) =
    let some = after_some x rest u in
    (some.0, some.1, ap (λ (js : List Entry). append_joined js u) e ∙ joined_beyond journal x rest u ∙ ap (λ (js : List Entry). journal ++ js) some.2)

plain_behind : (journal more : List Entry) (u : Entry) → Behind journal more → Behind journal (more ++ u ∷ [])
plain_behind journal more u (x, rest, e) =
    (x, rest ++ u ∷ [], ap (λ (js : List Entry). js ++ u ∷ []) e ∙ append_assoc journal (x ∷ rest) (u ∷ []))

stays_behind : (journal more : List Entry) (u : Entry) → Behind journal more → Behind journal (append more u)
stays_behind journal more (Ran q n) h = joined_behind journal more (Ran q n) h
stays_behind journal more (Hands n) h = joined_behind journal more (Hands n) h
stays_behind journal more u h = plain_behind journal more u h

all_behind : (us : List Entry) (journal more : List Entry) → Behind journal more → Behind journal (appended more us)
all_behind [] journal more h = h
all_behind (u ∷ us) journal more h = all_behind us journal (append more u) (stays_behind journal more u h)

-- a unit that makes a journal longer, and others
pub goes_behind : (journal : List Entry) (u : Entry) (us : List Entry) → length journal < length (append journal u)
    → Behind journal (appended (append journal u) us)
goes_behind journal u us long = all_behind us journal (append journal u) (u, [], stands_behind journal u long)

-- No unit makes a journal shorter.

after_long : (e : Entry) (journal : List Entry) (u : Entry) → length (e ∷ journal) ≤ length (append_after e journal u)
after_long e [] u = let some = join_some e u in let same = ap (λ (js : List Entry). length js) some.2 in omega (arith, same)
after_long e (f ∷ journal) u = let more = after_long f journal u in omega (arith, more)

joined_long : (journal : List Entry) (u : Entry) → length journal ≤ length (append_joined journal u)
joined_long [] u = omega arith
joined_long (e ∷ journal) u = after_long e journal u

plain_long : (journal : List Entry) (u : Entry) → length journal ≤ length (journal ++ u ∷ [])
plain_long journal u = let same = length-append journal (u ∷ []) in omega (arith, same)

pub unit_long : (journal : List Entry) (u : Entry) → length journal ≤ length (append journal u)
unit_long journal (Ran q n) = joined_long journal (Ran q n)
unit_long journal (Hands n) = joined_long journal (Hands n)
unit_long journal u = plain_long journal u

pub units_long : (us : List Entry) (journal : List Entry) → length journal ≤ length (appended journal us)
units_long [] journal = omega arith
units_long (u ∷ us) journal =
    let one = unit_long journal u in
    let more = units_long us (append journal u) in
    omega (arith, one, more)

pub behind_longer : (journal more : List Entry) → Behind journal more → length journal < length more
behind_longer journal more (x, rest, e) =
    let same = ap (λ (js : List Entry). length js) e in
    let both = length-append journal (x ∷ rest) in
    omega (arith, same, both)
