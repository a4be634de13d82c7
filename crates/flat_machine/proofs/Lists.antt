-- Lists of processes, changed in place.
use Rattle.std.proofs.Common.{◌≡◌, ℕ, cond, zero, suc, ◌+◌, ◌<◌, ◌==◌, Bool, true, false, List, [], ◌∷◌, ◌++◌, length, map, take, drop, get_or, set, Some, None, IsTrue, inl, inr, nat_lt, refl, sym, ap, ◌∙◌, subst, arith}
use Rattle.std.specs.Prelude.{position, find}
use Rattle.std.specs.List.{position_or_len}
use Rattle.std.proofs.lemmas.Bool.{cases_lt}
use Rattle.std.proofs.lemmas.List.Sums.{fails_before_first}
use Rattle.std.proofs.lemmas.List.Quantifiers.{position-Some}
use Rattle.flat_state.specs.Space.{Space}
use Rattle.flat_state.specs.Flat.{Holds, Process, FlatState, process_of, is_ready, ready_if, can_step, holds_space}
use Rattle.std.proofs.lemmas.Bool.Decides.{nat_tests}
use Rattle.flat_state.specs.Change.{replaced, replaced_by, with_process, returned, returned_by, given_back, lends_to}
use Rattle.flat_process.specs.Holdings.{no_process}
use Rattle.flat_machine.specs.Machine.{process_at, IsPlace}

-- an element of a list whose front was changed
pub got_next : {X : Type 0} (f : X → X) (xs : List X) (i : ℕ) (d : X) → get_or (map f (take i xs) ++ drop i xs) i d ≡ get_or xs i d
got_next f [] zero d = refl
got_next f [] (suc i) d = refl
got_next f (x ∷ xs) zero d = refl
got_next f (x ∷ xs) (suc i) d = got_next f xs i d

set_next : {X : Type 0} (f : X → X) (xs : List X) (i : ℕ) (y : X) → i < length xs → y ≡ f (get_or xs i y)
    → set (map f (take i xs) ++ drop i xs) i y ≡ map f (take (suc i) xs) ++ drop (suc i) xs
set_next f [] i y below e = absurd (omega arith)
set_next f (x ∷ xs) zero y below e = ap (λ z. z ∷ xs) e
set_next f (x ∷ xs) (suc i) y below e = ap (λ zs. f x ∷ zs) (set_next f xs i y (omega arith) e)

pub same_got : {X : Type 0} (xs : List X) (i : ℕ) (d e : X) → i < length xs → get_or xs i d ≡ get_or xs i e
same_got [] i d e below = absurd (omega arith)
same_got (x ∷ xs) zero d e below = refl
same_got (x ∷ xs) (suc i) d e below = same_got xs i d e (omega arith)

-- one more element is changed
pub set_more : {X : Type 0} (f : X → X) (xs ys : List X) (i : ℕ) (x y : X) → i < length xs → ys ≡ map f (take i xs) ++ drop i xs → x ≡ get_or ys i x → y ≡ f x
    → set ys i y ≡ map f (take (i + 1) xs) ++ drop (i + 1) xs
set_more {X} f xs ys i x y below same got e =
    let at : x ≡ get_or xs i x = got ∙ ap (λ (zs : List X). get_or zs i x) same ∙ got_next f xs i x in
    let at_y : get_or xs i x ≡ get_or xs i y = same_got xs i x y below in
    ap (λ (zs : List X). set zs i y) same
    ∙ set_next f xs i y below (e ∙ ap f (at ∙ at_y))
    ∙ ap (λ (n : ℕ). map f (take n xs) ++ drop n xs) (let k : suc i ≡ i + 1 = omega arith in k)

-- The first process that passes a test.

-- no earlier one passes, and this one does
pub record IsFirst (test : Process → Bool) (xs : List Process) (i : ℕ) : Type 0 where
  pub within : i < length xs
  pub this : test (get_or xs i no_process) ≡ true
  pub earlier : (k : ℕ) → k < i → test (get_or xs k no_process) ≡ false

pub is_first : (test : Process → Bool) (xs : List Process) (i : ℕ) → position test xs ≡ Some i → IsFirst test xs i
is_first test xs i h = let found = position-Some test xs i no_process h in record { within = found.0; this = found.1; earlier = found.2 }

rest_first : (test : Process → Bool) (x : Process) (xs : List Process) (i : ℕ) → IsFirst test (x ∷ xs) (suc i) → IsFirst test xs i
rest_first test x xs i h = record {
  within = let w = h.within in omega arith;
  this = h.this;
  earlier = λ k below. h.earlier (suc k) (omega arith);
}

pub replaced_at : (xs : List Process) (i : ℕ) (p : Process) → IsFirst (λ (q : Process). q.pid == p.pid) xs i → replaced xs p ≡ set xs i p
unfolding replaced
replaced_at [] i p h = absurd (let w = h.within in omega arith)
replaced_at (x ∷ xs) zero p h = ap (λ (b : Bool). replaced_by b p x xs (replaced xs p)) h.this
replaced_at (x ∷ xs) (suc i) p h =
    ap (λ (b : Bool). replaced_by b p x xs (replaced xs p)) (h.earlier zero (omega arith))
    ∙ ap (λ (ys : List Process). x ∷ ys) (replaced_at xs i p (rest_first (λ (q : Process). q.pid == p.pid) x xs i h))

pub returned_at : (xs : List Process) (i pid : ℕ) (s : Space) → IsFirst (λ (q : Process). lends_to pid q.holding) xs i
    → returned pid s xs ≡ set xs i (record (get_or xs i no_process) { holding = Holds s })
unfolding returned
returned_at [] i pid s h = absurd (let w = h.within in omega arith)
returned_at (x ∷ xs) zero pid s h = ap (λ (b : Bool). returned_by b s x xs (returned pid s xs)) h.this
returned_at (x ∷ xs) (suc i) pid s h =
    ap (λ (b : Bool). returned_by b s x xs (returned pid s xs)) (h.earlier zero (omega arith))
    ∙ ap (λ (ys : List Process). x ∷ ys) (returned_at xs i pid s (rest_first (λ (q : Process). lends_to pid q.holding) x xs i h))

none_passes : (test : Process → Bool) (xs : List Process) → position test xs ≡ None → (k : ℕ) → k < length xs → test (get_or xs k no_process) ≡ false
none_passes test xs none k below = elim (cases_lt (position_or_len test xs) (length xs)) [
  | inl inside ↦ absurd (let t : nat_lt (position_or_len test xs) (length xs) ≡ true = grind (arith, nat_tests) in let bad : Some (position_or_len test xs) ≡ None = rw t at none in cc)
  | inr past ↦ fails_before_first test xs k no_process (omega arith)
]

-- where nobody lends, nothing is given back
returned_none : (xs : List Process) (pid : ℕ) (s : Space) → ((k : ℕ) → k < length xs → lends_to pid (get_or xs k no_process).holding ≡ false)
    → returned pid s xs ≡ xs
unfolding returned
returned_none [] pid s none = refl
returned_none (x ∷ xs) pid s none =
    ap (λ (b : Bool). returned_by b s x xs (returned pid s xs)) (none zero (omega arith))
    ∙ ap (λ (ys : List Process). x ∷ ys) (returned_none xs pid s (λ k below. none (suc k) (omega arith)))

pub given_back_none : (F : FlatState) (pid : ℕ) (s : Space) → position (λ (q : Process). lends_to pid q.holding) F.processes ≡ None → given_back F pid s ≡ F
given_back_none F pid s h = ap (λ (xs : List Process). record F { processes = xs }) (returned_none F.processes pid s (none_passes (λ (q : Process). lends_to pid q.holding) F.processes h))

pub given_back_at : (F : FlatState) (pid place : ℕ) (s : Space) → position (λ (q : Process). lends_to pid q.holding) F.processes ≡ Some place
    → given_back F pid s ≡ record F { processes = set F.processes place (record (process_at F place) { holding = Holds s }) }
given_back_at F pid place s h =
    ap (λ (xs : List Process). record F { processes = xs })
    (returned_at F.processes place pid s (is_first (λ (q : Process). lends_to pid q.holding) F.processes place h))

pub found_at : (xs : List Process) (i pid : ℕ) → IsFirst (λ (q : Process). q.pid == pid) xs i
    → find (λ (q : Process). q.pid == pid) xs ≡ Some (get_or xs i no_process)
found_at [] i pid h = absurd (let w = h.within in omega arith)
found_at (x ∷ xs) zero pid h = ap (λ (b : Bool). cond b (Some x) (find (λ (q : Process). q.pid == pid) xs)) h.this
found_at (x ∷ xs) (suc i) pid h =
    ap (λ (b : Bool). cond b (Some x) (find (λ (q : Process). q.pid == pid) xs)) (h.earlier zero (omega arith))
    ∙ found_at xs i pid (rest_first (λ (q : Process). q.pid == pid) x xs i h)

-- a process with the number of the one at a place takes its place
pub with_at : (F : FlatState) (place : ℕ) (p : Process) → IsPlace F place → p.pid ≡ (process_at F place).pid
    → with_process F p ≡ record F { processes = set F.processes place p }
with_at F place p at same =
    ap (λ (xs : List Process). record F { processes = xs })
    (replaced_at F.processes place p
    (subst (λ (n : ℕ). IsFirst (λ (q : Process). q.pid == n) F.processes place) (sym same) (is_first (λ (q : Process). q.pid == (process_at F place).pid) F.processes place at.first)))

set_same : (xs : List Process) (i : ℕ) → i < length xs → set xs i (get_or xs i no_process) ≡ xs
set_same [] i below = absurd (omega arith)
set_same (x ∷ xs) zero below = refl
set_same (x ∷ xs) (suc i) below = ap (λ (ys : List Process). x ∷ ys) (set_same xs i (omega arith))

-- a process in its own place changes nothing
pub with_same : (F : FlatState) (place : ℕ) → IsPlace F place → with_process F (process_at F place) ≡ F
with_same F place at =
    with_at F place (process_at F place) at refl ∙ ap (λ (xs : List Process). record F { processes = xs }) (set_same F.processes place at.within)

pub process_found : (F : FlatState) (place : ℕ) → IsPlace F place → process_of F (process_at F place).pid ≡ Some (process_at F place)
process_found F place at = found_at F.processes place (process_at F place).pid (is_first (λ (q : Process). q.pid == (process_at F place).pid) F.processes place at.first)

ready_holds : (p : Process) → is_ready p ≡ true → IsTrue (holds_space p.holding)
ready_holds p h = go p.asleep h
  where
    go : (b : Bool) → (cond b false (holds_space p.holding)) ≡ true → IsTrue (holds_space p.holding)
    go true k = absurd cc
    go false k = k

-- the first process of a number, where it can step, is at a place
pub ready_place : (F : FlatState) (pid place : ℕ) → position (λ (q : Process). q.pid == pid) F.processes ≡ Some place
    → is_ready (process_at F place) ≡ true → IsPlace F place
ready_place F pid place h ready =
    let found = is_first (λ (q : Process). q.pid == pid) F.processes place h in
    let same : (process_at F place).pid ≡ pid = (let t : ((process_at F place).pid == pid) ≡ true = found.this in grind (arith, nat_tests)) in
    record {
      within = found.within;
      first = subst (λ (n : ℕ). position (λ (q : Process). q.pid == n) F.processes ≡ Some place) (sym same) h;
      holds = ready_holds (process_at F place) ready;
    }

find_none : (xs : List Process) (test : Process → Bool) → ((k : ℕ) → k < length xs → test (get_or xs k no_process) ≡ false) → find test xs ≡ None
find_none [] test none = refl
find_none (x ∷ xs) test none =
    ap (λ (b : Bool). cond b (Some x) (find test xs)) (none zero (omega arith)) ∙ find_none xs test (λ k below. none (suc k) (omega arith))

pub none_found : (F : FlatState) (pid : ℕ) → position (λ (q : Process). q.pid == pid) F.processes ≡ None → process_of F pid ≡ None
none_found F pid h = find_none F.processes (λ (q : Process). q.pid == pid) (none_passes (λ (q : Process). q.pid == pid) F.processes h)

-- a process that isn't there can't step
pub none_can : (F : FlatState) (pid : ℕ) → position (λ (q : Process). q.pid == pid) F.processes ≡ None → can_step F pid ≡ false
none_can F pid h = ap ready_if (none_found F pid h)

-- a process that is there can step where it is ready
pub can_at : (F : FlatState) (pid place : ℕ) (b : Bool) → position (λ (q : Process). q.pid == pid) F.processes ≡ Some place
    → is_ready (process_at F place) ≡ b → can_step F pid ≡ b
can_at F pid place b h ready =
    ap ready_if (found_at F.processes place pid (is_first (λ (q : Process). q.pid == pid) F.processes place h)) ∙ ready

pub pid_at : (F : FlatState) (pid place : ℕ) → position (λ (q : Process). q.pid == pid) F.processes ≡ Some place → (process_at F place).pid ≡ pid
pid_at F pid place h =
    let found = is_first (λ (q : Process). q.pid == pid) F.processes place h in
    let t : ((process_at F place).pid == pid) ≡ true = found.this in grind (arith, nat_tests)
