-- The process of a number, where the list of processes changes.
use Rattle.std.proofs.Common.{◌≡◌, ◌≢◌, ℕ, ◌==◌, Bool, true, false, cond, ◌&&◌, List, [], ◌∷◌, ◌++◌, map, filter, find, Some, refl, sym, ap, ◌∙◌, subst, arith, eq-eqb}
use Rattle.std.proofs.lemmas.Bool.Decides.{nat_tests}
use Rattle.std.proofs.lemmas.Bool.{eqb-true}
use Rattle.flat_state.specs.Space.{Space}
use Rattle.flat_state.specs.Flat.{Holding, Holds, Process, FlatState, process_of}
use Rattle.flat_state.specs.Change.{replaced_by, replaced, returned_by, returned, lends_to, is_zombie_child, is_zombie, with_process}
use Rattle.flat_state.specs.Numbers.{IsAbsent, AllDistinct}
use Rattle.kernel_laws.proofs.Flat.Lists.{found_is, replaced_at}

-- the process of this number in a list holds this space
pub record FoundHolding (qs : List Process) (pid : ℕ) (s : Space) : Type 0 where
  pub process : Process
  pub here : find (λ q. q.pid == pid) qs ≡ Some process
  pub holds : process.holding ≡ Holds s

-- the first process, or one after it
data First (q : Process) (qs : List Process) (pid : ℕ) (s : Space) : Type 0 where
  Here : (q.pid == pid) ≡ true → q.holding ≡ Holds s → First q qs pid s
  Behind : (q.pid == pid) ≡ false → FoundHolding qs pid s → First q qs pid s

first_of : (q : Process) (qs : List Process) (pid : ℕ) (s : Space) → FoundHolding (q ∷ qs) pid s → First q qs pid s
first_of q qs pid s h = go (q.pid == pid) refl h.here
  where
    go : (b : Bool) → (q.pid == pid) ≡ b → cond b (Some q) (find (λ r. r.pid == pid) qs) ≡ Some h.process → First q qs pid s
    go true e k = let same : q ≡ h.process = cc in Here e (ap (λ (r : Process). r.holding) same ∙ h.holds)
    go false e k = Behind e record { process = h.process; here = k; holds = h.holds }

found_here : (q : Process) (qs : List Process) (pid : ℕ) (s : Space) → (q.pid == pid) ≡ true → q.holding ≡ Holds s → FoundHolding (q ∷ qs) pid s
found_here q qs pid s e h = record { process = q; here = ap (λ (b : Bool). cond b (Some q) (find (λ r. r.pid == pid) qs)) e; holds = h }

found_behind : (q : Process) (qs : List Process) (pid : ℕ) (s : Space) → (q.pid == pid) ≡ false → FoundHolding qs pid s → FoundHolding (q ∷ qs) pid s
found_behind q qs pid s e h = record { process = h.process; here = ap (λ (b : Bool). cond b (Some q) (find (λ r. r.pid == pid) qs)) e ∙ h.here; holds = h.holds }

-- another process in place of one of its number
pub found_replaced : (qs : List Process) (p : Process) (pid : ℕ) (s : Space) → p.pid ≢ pid → FoundHolding qs pid s → FoundHolding (replaced qs p) pid s
unfolding replaced
found_replaced [] p pid s other h = absurd (let k = h.here in cc)
found_replaced (q ∷ qs) p pid s other h = go (λ k. found_replaced qs p pid s other k) (q.pid == p.pid) refl (first_of q qs pid s h)
  where
    go : (FoundHolding qs pid s → FoundHolding (replaced qs p) pid s) → (b : Bool) → (q.pid == p.pid) ≡ b → First q qs pid s → FoundHolding (replaced_by b p q qs (replaced qs p)) pid s
    go later true e (Here k holds) = absurd (other (sym (eqb-true q.pid p.pid e) ∙ eqb-true q.pid pid k))
    go later true e (Behind k found) = found_behind p qs pid s (let apart : (p.pid == pid) ≡ false = grind (arith, nat_tests) in apart) found
    go later false e (Here k holds) = found_here q (replaced qs p) pid s k holds
    go later false e (Behind k found) = found_behind q (replaced qs p) pid s k (later found)

-- a space that goes back to its lender
pub found_returned : (of : ℕ) (given : Space) (qs : List Process) (pid : ℕ) (s : Space) → FoundHolding qs pid s → FoundHolding (returned of given qs) pid s
unfolding returned
found_returned of given [] pid s h = absurd (let k = h.here in cc)
found_returned of given (q ∷ qs) pid s h = go (λ k. found_returned of given qs pid s k) (lends_to of q.holding) refl (first_of q qs pid s h)
  where
    go : (FoundHolding qs pid s → FoundHolding (returned of given qs) pid s) → (b : Bool) → lends_to of q.holding ≡ b → First q qs pid s
        → FoundHolding (returned_by b given q qs (returned of given qs)) pid s
    go later true e (Here k holds) = absurd (let lends : false ≡ true = sym (ap (lends_to of) holds) ∙ e in cc)
    go later true e (Behind k found) = found_behind (record q { holding = Holds given }) qs pid s k found
    go later false e (Here k holds) = found_here q (returned of given qs) pid s k holds
    go later false e (Behind k found) = found_behind q (returned of given qs) pid s k (later found)

-- processes that a test leaves out, of which this one is none
pub found_filtered : (test : Process → Bool) (qs : List Process) (pid : ℕ) (s : Space)
    → ((q : Process) → q.holding ≡ Holds s → (q.pid == pid) ≡ true → test q ≡ true) → FoundHolding qs pid s → FoundHolding (filter test qs) pid s
found_filtered test [] pid s stays h = absurd (let k = h.here in cc)
found_filtered test (q ∷ qs) pid s stays h = go (λ k. found_filtered test qs pid s stays k) (test q) refl (first_of q qs pid s h)
  where
    go : (FoundHolding qs pid s → FoundHolding (filter test qs) pid s) → (b : Bool) → test q ≡ b → First q qs pid s → FoundHolding (cond b (q ∷ filter test qs) (filter test qs)) pid s
    go later true e (Here k holds) = found_here q (filter test qs) pid s k holds
    go later true e (Behind k found) = found_behind q (filter test qs) pid s k (later found)
    go later false e (Here k holds) = absurd (let kept = stays q holds k in cc)
    go later false e (Behind k found) = later found

-- what each process has, but its number and what it holds
pub found_mapped : (f : Process → Process) (qs : List Process) (pid : ℕ) (s : Space) → ((q : Process) → (f q).pid ≡ q.pid)
    → ((q : Process) → (f q).holding ≡ q.holding) → FoundHolding qs pid s → FoundHolding (map f qs) pid s
found_mapped f [] pid s number holding h = absurd (let k = h.here in cc)
found_mapped f (q ∷ qs) pid s number holding h = go (λ k. found_mapped f qs pid s number holding k) (first_of q qs pid s h)
  where
    go : (FoundHolding qs pid s → FoundHolding (map f qs) pid s) → First q qs pid s → FoundHolding (f q ∷ map f qs) pid s
    go later (Here k holds) = found_here (f q) (map f qs) pid s (ap (λ (n : ℕ). n == pid) (number q) ∙ k) (holding q ∙ holds)
    go later (Behind k found) = found_behind (f q) (map f qs) pid s (ap (λ (n : ℕ). n == pid) (number q) ∙ k) (later found)

pub found_front : (qs : List Process) (p : Process) (pid : ℕ) (s : Space) → FoundHolding qs pid s → FoundHolding (qs ++ p ∷ []) pid s
found_front [] p pid s h = absurd (let k = h.here in cc)
found_front (q ∷ qs) p pid s h = go (λ k. found_front qs p pid s k) (first_of q qs pid s h)
  where
    go : (FoundHolding qs pid s → FoundHolding (qs ++ p ∷ []) pid s) → First q qs pid s → FoundHolding (q ∷ (qs ++ p ∷ [])) pid s
    go later (Here k holds) = found_here q (qs ++ p ∷ []) pid s k holds
    go later (Behind k found) = found_behind q (qs ++ p ∷ []) pid s k (later found)

-- Numbers.

pub found_passes : (test : Process → Bool) (qs : List Process) (z : Process) → find test qs ≡ Some z → test z ≡ true
found_passes test [] z h = absurd cc
found_passes test (q ∷ qs) z h = go (λ k. found_passes test qs z k) (test q) refl h
  where
    go : (find test qs ≡ Some z → test z ≡ true) → (b : Bool) → test q ≡ b → cond b (Some q) (find test qs) ≡ Some z → test z ≡ true
    go later true e k = let same : q ≡ z = cc in subst (λ (r : Process). test r ≡ true) same e
    go later false e k = later k

abbrev pub pids : List Process → List ℕ
pids qs = map (λ (q : Process). q.pid) qs

-- who is found has a number of the list
found_present : (test : Process → Bool) (qs : List Process) (z : Process) (n : ℕ) → IsAbsent n (pids qs) → find test qs ≡ Some z → z.pid ≢ n
found_present test [] z n absent h = absurd cc
found_present test (q ∷ qs) z n absent h = go (λ k. found_present test qs z n absent.1 k) (test q) h
  where
    go : (find test qs ≡ Some z → z.pid ≢ n) → (b : Bool) → cond b (Some q) (find test qs) ≡ Some z → z.pid ≢ n
    go later true k = let same : q ≡ z = cc in subst (λ (r : Process). r.pid ≢ n) same absent.0
    go later false k = later k

-- where no two processes have one number, who is found by a test is found by his number
pub found_by_number : (test : Process → Bool) (qs : List Process) (z : Process) → AllDistinct (pids qs) → find test qs ≡ Some z
    → find (λ r. r.pid == z.pid) qs ≡ Some z
found_by_number test [] z own h = absurd cc
found_by_number test (q ∷ qs) z own h = go (λ k. found_by_number test qs z own.1 k) (test q) h
  where
    last : (b : Bool) → (q.pid == z.pid) ≡ b → find test qs ≡ Some z → find (λ r. r.pid == z.pid) qs ≡ Some z → cond b (Some q) (find (λ r. r.pid == z.pid) qs) ≡ Some z
    last true e k f = absurd (found_present test qs z q.pid own.0 k (sym (eqb-true q.pid z.pid e)))
    last false e k f = f

    go : (find test qs ≡ Some z → find (λ r. r.pid == z.pid) qs ≡ Some z) → (b : Bool) → cond b (Some q) (find test qs) ≡ Some z
        → cond (q.pid == z.pid) (Some q) (find (λ r. r.pid == z.pid) qs) ≡ Some z
    go later true k =
        let same : q ≡ z = cc in ap (λ (b : Bool). cond b (Some q) (find (λ r. r.pid == z.pid) qs)) (eq-eqb q.pid z.pid (ap (λ (r : Process). r.pid) same)) ∙ ap (λ (r : Process). Some r) same
    go later false k = last (q.pid == z.pid) refl k (later k)

-- who takes the place of one of his number changes no number
pub pids_replaced : (qs : List Process) (p : Process) → pids (replaced qs p) ≡ pids qs
unfolding replaced
pids_replaced [] p = refl
pids_replaced (q ∷ qs) p = go (pids_replaced qs p) (q.pid == p.pid) refl
  where
    go : pids (replaced qs p) ≡ pids qs → (b : Bool) → (q.pid == p.pid) ≡ b → pids (replaced_by b p q qs (replaced qs p)) ≡ q.pid ∷ pids qs
    go later true e = ap (λ (n : ℕ). n ∷ pids qs) (sym (eqb-true q.pid p.pid e))
    go later false e = ap (λ (ns : List ℕ). q.pid ∷ ns) later

pub zombie_passes : (pid : ℕ) (qs : List Process) (z : Process) → find (is_zombie_child pid) qs ≡ Some z → is_zombie_child pid z ≡ true
zombie_passes pid qs z h = found_passes (is_zombie_child pid) qs z h

-- who holds a space is no zombie
pub holder_is_none : (of : ℕ) (q : Process) (s : Space) → q.holding ≡ Holds s → is_zombie_child of q ≡ false
holder_is_none of q s h = ap (λ (x : Holding). (q.parent == of) && is_zombie x) h ∙ never (q.parent == of)
  where
    never : (b : Bool) → (b && false) ≡ false
    never true = refl
    never false = refl

pub found_after : (F : FlatState) (pid : ℕ) (q p : Process) → process_of F pid ≡ Some q → p.pid ≡ pid → process_of (with_process F p) pid ≡ Some p
found_after F pid q p e n = subst (λ (x : ℕ). process_of F x ≡ Some q → process_of (with_process F p) x ≡ Some p) n
    (λ k. found_is (replaced F.processes p) p.pid ∙ replaced_at F.processes q p (sym (found_is F.processes p.pid) ∙ k)) e
