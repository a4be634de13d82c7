-- How many processes are awake: a child is one more, and who falls asleep is one fewer.
use Rattle.std.proofs.Common.{◌≡◌, ◌≢◌, ℕ, ◌+◌, ◌≤◌, ◌==◌, Bool, true, false, cond, not, if◌then◌else◌, List, [], ◌∷◌, ◌++◌, map, filter, find, Option, Some, None, refl, sym, ap, ◌∙◌, subst, arith}
use Rattle.std.proofs.lemmas.Bool.{eqb-true}
use Rattle.std.proofs.lemmas.Option.{same_Some}
use Rattle.flat_state.specs.Space.{Space}
use Rattle.flat_state.specs.Flat.{Holding, Holds, Lends, Zombie, Process, FlatState, NamedImage, image_numbered, process_of, space_with}
use Rattle.flat_state.specs.Numbers.{IsAbsent, AllDistinct, pids_of}
use Rattle.flat_state.specs.declared.change.Change.{Change}
use Rattle.flat_state.specs.declared.change.Change.TheVariants.{Keep, Resize, Fork, Lend, Exec, Reap, Sleep, End}
use Rattle.flat_state.specs.Change.{replaced_by, replaced, with_process, without_process, resized, child_of, lends_to, returned_by, returned, given_back, entered, is_zombie, is_zombie_child, without_parent, orphaned, awake, left, changed, NamesChild}
use Rattle.run_laws.proofs.Runs.{made}
use Rattle.run_laws.proofs.Lists.{Parts, parts_at, found_is}

-- it isn't asleep, and has not ended
abbrev pub is_awake : Process → Bool
is_awake q = if q.asleep then false else not (is_zombie q.holding)

abbrev pub awake_one : Process → ℕ
awake_one q = cond (is_awake q) 1 0

-- how many of these are awake
abbrev pub awake_count : List Process → ℕ
awake_count [] = 0
awake_count (q ∷ qs) = awake_one q + awake_count qs

one_awake : (q : Process) → q.asleep ≡ false → is_zombie q.holding ≡ false → awake_one q ≡ 1
one_awake q a z = ap (λ (b : Bool). cond (if b then false else not (is_zombie q.holding)) 1 0) a ∙ ap (λ (b : Bool). cond (not b) 1 0) z

-- ---- lists

count_both : (ps qs : List Process) → awake_count (ps ++ qs) ≡ awake_count ps + awake_count qs
count_both [] qs = omega arith
count_both (p ∷ ps) qs = let k = count_both ps qs in omega (arith, k)

count_filtered : (test : Process → Bool) (qs : List Process) → awake_count (filter test qs) ≤ awake_count qs
count_filtered test [] = omega arith
count_filtered test (q ∷ qs) = go (test q) (count_filtered test qs)
  where
    go : (b : Bool) → awake_count (filter test qs) ≤ awake_count qs → awake_count (cond b (q ∷ filter test qs) (filter test qs)) ≤ awake_count (q ∷ qs)
    go true l = omega (arith, l)
    go false l = omega (arith, l)

count_returned : (pid : ℕ) (s : Space) (qs : List Process) → awake_count (returned pid s qs) ≡ awake_count qs
unfolding returned
count_returned pid s [] = refl
count_returned pid s (q ∷ qs) = go (lends_to pid q.holding) refl (count_returned pid s qs)
  where
    living : (h : Holding) → lends_to pid h ≡ true → is_zombie h ≡ false
    living (Holds t) e = refl
    living (Lends sid child) e = refl
    living (Zombie status) e = absurd cc

    go : (b : Bool) → lends_to pid q.holding ≡ b → awake_count (returned pid s qs) ≡ awake_count qs → awake_count (returned_by b s q qs (returned pid s qs)) ≡ awake_count (q ∷ qs)
    go true e l = ap (λ (b : Bool). cond (if q.asleep then false else not b) 1 0 + awake_count qs) (sym (living q.holding e))
    go false e l = ap (λ (n : ℕ). awake_one q + n) l

count_orphans : (pid : ℕ) (qs : List Process) → awake_count (map (without_parent pid) qs) ≡ awake_count qs
count_orphans pid [] = refl
count_orphans pid (q ∷ qs) = ap (λ (n : ℕ). awake_one q + n) (count_orphans pid qs)

-- how many have this number
many_with : ℕ → List Process → ℕ
many_with n [] = 0
many_with n (q ∷ qs) = cond (q.pid == n) 1 0 + many_with n qs

count_woken : (n : ℕ) (qs : List Process) → awake_count (map (awake n) qs) ≤ awake_count qs + many_with n qs
unfolding many_with
count_woken n [] = omega arith
count_woken n (q ∷ qs) = go (q.pid == n) (is_zombie q.holding) q.asleep (count_woken n qs)
  where
    go : (b z a : Bool) → awake_count (map (awake n) qs) ≤ awake_count qs + many_with n qs
        → cond (if (if b then false else a) then false else not z) 1 0 + awake_count (map (awake n) qs) ≤ cond (if a then false else not z) 1 0 + awake_count qs + (cond b 1 0 + many_with n qs)
    go true true true l = omega (arith, l)
    go true true false l = omega (arith, l)
    go true false true l = omega (arith, l)
    go true false false l = omega (arith, l)
    go false true true l = omega (arith, l)
    go false true false l = omega (arith, l)
    go false false true l = omega (arith, l)
    go false false false l = omega (arith, l)

many_filtered : (n : ℕ) (test : Process → Bool) (qs : List Process) → many_with n (filter test qs) ≤ many_with n qs
unfolding many_with
many_filtered n test [] = omega arith
many_filtered n test (q ∷ qs) = go (test q) (many_filtered n test qs)
  where
    go : (b : Bool) → many_with n (filter test qs) ≤ many_with n qs → many_with n (cond b (q ∷ filter test qs) (filter test qs)) ≤ many_with n (q ∷ qs)
    go true l = omega (arith, l)
    go false l = omega (arith, l)

many_orphans : (n pid : ℕ) (qs : List Process) → many_with n (map (without_parent pid) qs) ≡ many_with n qs
unfolding many_with
many_orphans n pid [] = refl
many_orphans n pid (q ∷ qs) = ap (λ (m : ℕ). cond (q.pid == n) 1 0 + m) (many_orphans n pid qs)

many_returned : (n pid : ℕ) (s : Space) (qs : List Process) → many_with n (returned pid s qs) ≡ many_with n qs
unfolding many_with returned
many_returned n pid s [] = refl
many_returned n pid s (q ∷ qs) = go (lends_to pid q.holding) (many_returned n pid s qs)
  where
    go : (b : Bool) → many_with n (returned pid s qs) ≡ many_with n qs → many_with n (returned_by b s q qs (returned pid s qs)) ≡ many_with n (q ∷ qs)
    go true l = refl
    go false l = ap (λ (m : ℕ). cond (q.pid == n) 1 0 + m) l

many_replaced : (n : ℕ) (p : Process) (qs : List Process) → many_with n (replaced qs p) ≡ many_with n qs
unfolding many_with replaced
many_replaced n p [] = refl
many_replaced n p (q ∷ qs) = go (q.pid == p.pid) refl (many_replaced n p qs)
  where
    go : (b : Bool) → (q.pid == p.pid) ≡ b → many_with n (replaced qs p) ≡ many_with n qs → many_with n (replaced_by b p q qs (replaced qs p)) ≡ many_with n (q ∷ qs)
    go true e l = ap (λ (m : ℕ). cond (m == n) 1 0 + many_with n qs) (sym (eqb-true q.pid p.pid e))
    go false e l = ap (λ (m : ℕ). cond (q.pid == n) 1 0 + m) l

many_none : (n : ℕ) (qs : List Process) → IsAbsent n (map (λ (q : Process). q.pid) qs) → many_with n qs ≡ 0
unfolding many_with
many_none n [] h = refl
many_none n (q ∷ qs) h = go (q.pid == n) refl (many_none n qs h.1)
  where
    go : (b : Bool) → (q.pid == n) ≡ b → many_with n qs ≡ 0 → cond b 1 0 + many_with n qs ≡ 0
    go true e l = absurd (h.0 (eqb-true q.pid n e))
    go false e l = omega (arith, l)

many_most : (n : ℕ) (qs : List Process) → AllDistinct (map (λ (q : Process). q.pid) qs) → many_with n qs ≤ 1
unfolding many_with
many_most n [] d = omega arith
many_most n (q ∷ qs) d = go (q.pid == n) refl (many_most n qs d.1)
  where
    go : (b : Bool) → (q.pid == n) ≡ b → many_with n qs ≤ 1 → cond b 1 0 + many_with n qs ≤ 1
    go true e l = let k = many_none n qs (subst (λ (m : ℕ). IsAbsent m (map (λ (x : Process). x.pid) qs)) (eqb-true q.pid n e) d.0) in omega (arith, k)
    go false e l = omega (arith, l)

-- who is found is found among all but others
find_kept : (qs : List Process) (of pid : ℕ) (q : Process) → of ≢ pid → find (λ x. x.pid == pid) qs ≡ Some q → find (λ x. x.pid == pid)
    (filter (λ x. not (x.pid == of)) qs) ≡ Some q
find_kept [] of pid q other e = absurd cc
find_kept (x ∷ xs) of pid q other e = go (x.pid == pid) (x.pid == of) refl refl e (λ k. find_kept xs of pid q other k)
  where
    both : (n : ℕ) → (n == pid) ≡ true → (n == of) ≡ true → ⊥
    both n a b = other (sym (eqb-true n of b) ∙ eqb-true n pid a)

    go : (a b : Bool) → (x.pid == pid) ≡ a → (x.pid == of) ≡ b → cond a (Some x) (find (λ y. y.pid == pid) xs) ≡ Some q
        → (find (λ y. y.pid == pid) xs ≡ Some q → find (λ y. y.pid == pid) (filter (λ y. not (y.pid == of)) xs) ≡ Some q)
        → find (λ y. y.pid == pid) (cond (not b) (x ∷ filter (λ y. not (y.pid == of)) xs) (filter (λ y. not (y.pid == of)) xs)) ≡ Some q
    go true true m n k more = absurd (both x.pid m n)
    go true false m n k more = ap (λ (c : Bool). cond c (Some x) (find (λ y. y.pid == pid) (filter (λ y. not (y.pid == of)) xs))) m ∙ k
    go false true m n k more = more k
    go false false m n k more = ap (λ (c : Bool). cond c (Some x) (find (λ y. y.pid == pid) (filter (λ y. not (y.pid == of)) xs))) m ∙ more k

-- one process gives way to another
pub count_replaced : (F : FlatState) (q p : Process) → process_of F p.pid ≡ Some q → awake_count
    (with_process F p).processes + awake_one q ≡ awake_count F.processes + awake_one p
count_replaced F q p e =
    let k : Parts F.processes q p = parts_at F.processes q p (sym (found_is F.processes p.pid) ∙ e) in
    let a = ap awake_count k.old in let b = ap awake_count k.new in
    let c = count_both k.front (q ∷ k.back) in let d = count_both k.front (p ∷ k.back) in
    omega (arith, a, b, c, d)

-- ---- changes

-- 1 where the process falls asleep
abbrev pub slept : Change → ℕ
slept Sleep = 1
slept _ = 0

left_count : (b : Bool) (F : FlatState) (pid parent : ℕ) → awake_count (left b F pid parent).processes ≤ awake_count F.processes + many_with parent F.processes
left_count true F pid parent = let k = count_filtered (λ q. not (q.pid == pid)) F.processes in omega (arith, k)
left_count false F pid parent = count_woken parent F.processes

zombie_apart : (F : FlatState) (child : ℕ) (q : Process) (s : Space) → NamesChild F (Reap child) → process_of F q.pid ≡ Some q → q.holding ≡ Holds s
    → child ≢ q.pid
zombie_apart F child q s may here holds = λ same.
    let one : Some may.0 ≡ Some q = sym may.2 ∙ ap (process_of F) same ∙ here in
    let it : may.0 ≡ q = same_Some may.0 q one in
    let held : Zombie may.1 ≡ Holds s = sym may.3 ∙ ap (λ (r : Process). r.holding) it ∙ holds in
    absurd cc

-- the process that makes it is awake, and holds this space
pub changed_count : (images : List NamedImage) (F : FlatState) (q p : Process) (s : Space) (change : Change) → process_of F p.pid ≡ Some q → p.pid ≡ q.pid
    → q.holding ≡ Holds s → q.asleep ≡ false
    → p.asleep ≡ false → p.holding ≡ Holds s → AllDistinct (pids_of F) → NamesChild F change
    → awake_count (changed images F p s change).processes + slept change ≤ awake_count F.processes + made change
changed_count images F q p s change here n holds a b held distinct may = go change may
  where
    one : awake_one q ≡ 1
    one = one_awake q a (ap is_zombie holds)

    self : awake_one p ≡ 1
    self = one_awake p b (ap is_zombie held)

    holding : (t : Space) → awake_one (record p { holding = Holds t }) ≡ 1
    holding t = one_awake (record p { holding = Holds t }) b refl

    enters : (image : ℕ) (o : Option NamedImage) (top : List ℕ) → awake_count (entered F p s image o top).processes ≤ awake_count F.processes
    enters image None top = omega arith
    enters image (Some named) top =
        let k = count_replaced F q (record p { holding = Holds (space_with F.next_sid image named.image top) }) here in
        let m = holding (space_with F.next_sid image named.image top) in
        let r = count_returned p.pid s (with_process F (record p { holding = Holds (space_with F.next_sid image named.image top) })).processes in
        omega (arith, k, m, r, one)

    go : (c : Change) → NamesChild F c → awake_count (changed images F p s c).processes + slept c ≤ awake_count F.processes + made c
    go Keep m = let k = count_replaced F q p here in omega (arith, k, one, self)
    go (Resize d t) m = let k = count_replaced F q (record p { holding = Holds (resized s d t) }) here in let h = holding (resized s d t) in omega (arith, k, one, h)
    go (Fork child) m =
        let k = count_replaced F q p here in
        let c = count_both (with_process F p).processes (child_of p child (record s { sid = F.next_sid }) ∷ []) in
        omega (arith, k, one, self, c)
    go (Lend child) m =
        let k = count_replaced F q (record p { holding = Lends s.sid child }) here in
        let h = one_awake (record p { holding = Lends s.sid child }) b refl in
        let c = count_both (with_process F (record p { holding = Lends s.sid child })).processes (child_of p child s ∷ []) in
        omega (arith, k, one, h, c)
    go (Exec image top) m = let k = enters image (image_numbered images image) top in omega (arith, k)
    go (Reap child) m =
        let apart : child ≢ p.pid = λ same. zombie_apart F child q s m (subst (λ (x : ℕ). process_of F x ≡ Some q) n here) holds (same ∙ n) in
        let k = count_replaced (without_process F child) q p (find_kept F.processes child p.pid q apart here) in
        let l = count_filtered (λ x. not (x.pid == child)) F.processes in
        omega (arith, k, l, one, self)
    go Sleep m =
        let k = count_replaced F q (record p { asleep = true }) here in
        omega (arith, k, one)
    go (End status) m =
        let z : Process = record p { holding = Zombie status } in
        let k = count_replaced F q (record p { holding = Zombie status }) here in
        let none : awake_one (record p { holding = Zombie status }) ≡ 0 = ap (λ (c : Bool). cond (if c then false else false) 1 0) b in
        let r = count_returned p.pid s (with_process F (record p { holding = Zombie status })).processes in
        let f = count_filtered (λ x. not (is_zombie_child p.pid x)) (returned p.pid s (with_process F (record p { holding = Zombie status })).processes) in
        let o = count_orphans p.pid (filter (λ x. not (is_zombie_child p.pid x)) (returned p.pid s (with_process F (record p { holding = Zombie status })).processes)) in
        let l = left_count (p.parent == 0) (orphaned (given_back (with_process F (record p { holding = Zombie status })) p.pid s) p.pid) p.pid p.parent in
        let m1 = many_orphans p.parent p.pid (filter (λ x. not (is_zombie_child p.pid x)) (returned p.pid s (with_process F (record p { holding = Zombie status })).processes)) in
        let m2 = many_filtered p.parent (λ x. not (is_zombie_child p.pid x)) (returned p.pid s (with_process F (record p { holding = Zombie status })).processes) in
        let m3 = many_returned p.parent p.pid s (with_process F (record p { holding = Zombie status })).processes in
        let m4 = many_replaced p.parent (record p { holding = Zombie status }) F.processes in
        let m5 = many_most p.parent F.processes distinct in
        omega (arith, k, none, r, f, o, l, m1, m2, m3, m4, m5, one)
