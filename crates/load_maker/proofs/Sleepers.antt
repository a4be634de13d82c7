-- Each process that sleeps has a child that lives.
use Rattle.std.proofs.Common.{◌≡◌, ◌≢◌, ◌⊎◌, inl, inr, ℕ, ◌<◌, ◌==◌, Bool, true, false, cond, not, ◌&&◌, ◌||◌, List, [], ◌∷◌, ◌++◌, map, filter, find, Some, None, refl, sym, ap, ◌∙◌, subst, arith, eq-eqb}
use Rattle.std.specs.Prelude.{if◌then◌else◌}
use Rattle.std.proofs.lemmas.Bool.Decides.{nat_tests}
use Rattle.std.proofs.lemmas.Bool.{eqb-true, and_parts, or_left, or_right}
use Rattle.flat_state.specs.Flat.{Process}
use Rattle.flat_state.specs.Change.{replaced_by, replaced, is_zombie, is_zombie_child, without_parent, awake}
use Rattle.flat_state.specs.Numbers.{IsAbsent, AllDistinct, AllLower}
use Rattle.run_laws.proofs.Finding.{found_passes}
use Rattle.load_maker.proofs.Standings.{LeavesOut}

-- it is a child of this process, and lives
abbrev pub lives_for : ℕ → Process → Bool
lives_for pid q = q.parent == pid && not (is_zombie q.holding)

-- a child of this process lives
abbrev pub has_live : ℕ → List Process → Bool
has_live pid [] = false
has_live pid (q ∷ qs) = lives_for pid q || has_live pid qs

-- each of these that sleeps has a child among all that lives
abbrev pub AllAwaited : List Process → List Process → Type 0
AllAwaited all [] = Unit {0}
AllAwaited all (p ∷ ps) = (p.asleep ≡ true → has_live p.pid all ≡ true) × AllAwaited all ps

or_split : (a b : Bool) → (a || b) ≡ true → (a ≡ true) ⊎ (b ≡ true)
or_split true b h = inl refl
or_split false b h = inr h

-- ---- who lives goes on to live

-- the children of this process that live in one list live in another
abbrev pub GoesOn : ℕ → List Process → List Process → Type 0
GoesOn pid ps qs = has_live pid ps ≡ true → has_live pid qs ≡ true

pub goes_more : (pid : ℕ) (ps : List Process) (q : Process) → GoesOn pid ps (ps ++ q ∷ [])
goes_more pid [] q h = absurd cc
goes_more pid (x ∷ xs) q h = go (goes_more pid xs q) (or_split (lives_for pid x) (has_live pid xs) h)
  where
    go : GoesOn pid xs (xs ++ q ∷ []) → (lives_for pid x ≡ true) ⊎ (has_live pid xs ≡ true) → (lives_for pid x || has_live pid (xs ++ q ∷ [])) ≡ true
    go later (inl e) = or_left (lives_for pid x) (has_live pid (xs ++ q ∷ [])) e
    go later (inr e) = or_right (lives_for pid x) (has_live pid (xs ++ q ∷ [])) (later e)

pub goes_replaced : (n pid : ℕ) (ps : List Process) (p q : Process) → find (λ r. r.pid == pid) ps ≡ Some p → q.pid ≡ p.pid
    → (lives_for n p ≡ true → lives_for n q ≡ true) → GoesOn n ps (replaced ps q)
unfolding replaced
goes_replaced n pid [] p q f number live h = absurd cc
goes_replaced n pid (x ∷ xs) p q f number live h = go (λ z. goes_replaced n pid xs p q z number live) (x.pid == pid) refl f (or_split (lives_for n x) (has_live n xs) h)
  where
    at : (b : Bool) → (x.pid == q.pid) ≡ b → has_live n (replaced_by b q x xs (replaced xs q)) ≡ true
        → has_live n (replaced_by (x.pid == q.pid) q x xs (replaced xs q)) ≡ true
    at b e k = ap (λ (c : Bool). has_live n (replaced_by c q x xs (replaced xs q))) e ∙ k

    here : x ≡ p → (lives_for n x ≡ true) ⊎ (has_live n xs ≡ true) → has_live n (replaced_by (x.pid == q.pid) q x xs (replaced xs q)) ≡ true
    here same (inl e) = at true (eq-eqb x.pid q.pid (ap (λ (r : Process). r.pid) same ∙ sym number)) (or_left (lives_for n q) (has_live n xs) (live (sym (ap (lives_for n) same) ∙ e)))
    here same (inr e) = at true (eq-eqb x.pid q.pid (ap (λ (r : Process). r.pid) same ∙ sym number)) (or_right (lives_for n q) (has_live n xs) e)

    apart : (x.pid == pid) ≡ false → p.pid ≡ pid → (x.pid == q.pid) ≡ false
    apart e k = ap (λ (m : ℕ). x.pid == m) (number ∙ k) ∙ e

    behind : (x.pid == pid) ≡ false → p.pid ≡ pid → GoesOn n xs (replaced xs q) → (lives_for n x ≡ true) ⊎ (has_live n xs ≡ true)
        → has_live n (replaced_by (x.pid == q.pid) q x xs (replaced xs q)) ≡ true
    behind e k later (inl z) = at false (apart e k) (or_left (lives_for n x) (has_live n (replaced xs q)) z)
    behind e k later (inr z) = at false (apart e k) (or_right (lives_for n x) (has_live n (replaced xs q)) (later z))

    go : (find (λ r. r.pid == pid) xs ≡ Some p → GoesOn n xs (replaced xs q)) → (b : Bool) → (x.pid == pid) ≡ b
        → cond b (Some x) (find (λ r. r.pid == pid) xs) ≡ Some p
        → (lives_for n x ≡ true) ⊎ (has_live n xs ≡ true) → has_live n (replaced_by (x.pid == q.pid) q x xs (replaced xs q)) ≡ true
    go later true e z w = here (let same : x ≡ p = cc in same) w
    go later false e z w = behind e (eqb-true p.pid pid (found_passes (λ r. r.pid == pid) xs p z)) (later z) w

live_no_zombie : (n : ℕ) (x : Process) → lives_for n x ≡ true → is_zombie x.holding ≡ true → ⊥
live_no_zombie n x h z = let both = and_parts (x.parent == n) (not (is_zombie x.holding)) h in let no : false ≡ true = sym (ap not z) ∙ both.1 in absurd cc

pub goes_sifted : (n : ℕ) (ps : List Process) (test : Process → Bool) → LeavesOut test ps → GoesOn n ps (filter test ps)
goes_sifted n [] test out h = h
goes_sifted n (x ∷ xs) test out h = go (goes_sifted n xs test out.1) (test x) refl (or_split (lives_for n x) (has_live n xs) h)
  where
    go : GoesOn n xs (filter test xs) → (b : Bool) → test x ≡ b → (lives_for n x ≡ true) ⊎ (has_live n xs ≡ true)
        → has_live n (cond b (x ∷ filter test xs) (filter test xs)) ≡ true
    go later true e (inl z) = or_left (lives_for n x) (has_live n (filter test xs)) z
    go later true e (inr z) = or_right (lives_for n x) (has_live n (filter test xs)) (later z)
    go later false e (inl z) = absurd (live_no_zombie n x z (out.0 e))
    go later false e (inr z) = later z

pub goes_mapped : (n : ℕ) (ps : List Process) (g : Process → Process) → ((p : Process) → lives_for n p ≡ true → lives_for n (g p) ≡ true)
    → GoesOn n ps (map g ps)
goes_mapped n [] g keeps h = h
goes_mapped n (x ∷ xs) g keeps h = go (goes_mapped n xs g keeps) (or_split (lives_for n x) (has_live n xs) h)
  where
    go : GoesOn n xs (map g xs) → (lives_for n x ≡ true) ⊎ (has_live n xs ≡ true) → (lives_for n (g x) || has_live n (map g xs)) ≡ true
    go later (inl e) = or_left (lives_for n (g x)) (has_live n (map g xs)) (keeps x e)
    go later (inr e) = or_right (lives_for n (g x)) (has_live n (map g xs)) (later e)

-- a child of another process has no other parent once a process parts from its children
pub live_parted : (n pid : ℕ) (p : Process) → n ≢ pid → lives_for n p ≡ true → lives_for n (without_parent pid p) ≡ true
live_parted n pid p apart h =
    let both = and_parts (p.parent == n) (not (is_zombie p.holding)) h in
    let is : p.parent ≡ n = eqb-true p.parent n both.0 in
    let other : (p.parent == pid) ≡ false = ap (λ (m : ℕ). m == pid) is ∙ differs n pid apart in
    ap (λ (b : Bool). (if b then 0 else p.parent) == n && not (is_zombie p.holding)) other ∙ h
  where
    differs : (a b : ℕ) → a ≢ b → (a == b) ≡ false
    differs a b e = grind (arith, nat_tests)

-- ---- who sleeps is awaited

pub awaited_to : (all now ps : List Process) → ((n : ℕ) → GoesOn n all now) → AllAwaited all ps → AllAwaited now ps
awaited_to all now [] goes h = tt
awaited_to all now (p ∷ ps) goes h = ((λ s. goes p.pid (h.0 s)), awaited_to all now ps goes h.1)

pub awaited_more : (all ps : List Process) (q : Process) → AllAwaited all ps → q.asleep ≡ false → AllAwaited all (ps ++ q ∷ [])
awaited_more all [] q h a = ((λ s. absurd (let no : false ≡ true = sym a ∙ s in cc)), tt)
awaited_more all (p ∷ ps) q h a = (h.0, awaited_more all ps q h.1 a)

pub awaited_replaced : (all ps : List Process) (q : Process) → AllAwaited all ps → (q.asleep ≡ true → has_live q.pid all ≡ true)
    → AllAwaited all (replaced ps q)
unfolding replaced
awaited_replaced all [] q h a = tt
awaited_replaced all (p ∷ ps) q h a = go (p.pid == q.pid) (awaited_replaced all ps q h.1 a)
  where
    go : (b : Bool) → AllAwaited all (replaced ps q) → AllAwaited all (replaced_by b q p ps (replaced ps q))
    go true later = (a, h.1)
    go false later = (h.0, later)

pub awaited_sifted : (all ps : List Process) (test : Process → Bool) → AllAwaited all ps → AllAwaited all (filter test ps)
awaited_sifted all [] test h = tt
awaited_sifted all (p ∷ ps) test h = go (test p) (awaited_sifted all ps test h.1)
  where
    go : (b : Bool) → AllAwaited all (filter test ps) → AllAwaited all (cond b (p ∷ filter test ps) (filter test ps))
    go true later = (h.0, later)
    go false later = later

-- ---- one ends

-- each of these that sleeps is the process of a number, or has a child among all that lives
abbrev pub AwaitedBut : ℕ → List Process → List Process → Type 0
AwaitedBut m all [] = Unit {0}
AwaitedBut m all (p ∷ ps) = (p.asleep ≡ true → (p.pid ≡ m) ⊎ (has_live p.pid all ≡ true)) × AwaitedBut m all ps

but_sifted : (m : ℕ) (all ps : List Process) (test : Process → Bool) → AwaitedBut m all ps → AwaitedBut m all (filter test ps)
but_sifted m all [] test h = tt
but_sifted m all (p ∷ ps) test h = go (test p) (but_sifted m all ps test h.1)
  where
    go : (b : Bool) → AwaitedBut m all (filter test ps) → AwaitedBut m all (cond b (p ∷ filter test ps) (filter test ps))
    go true later = (h.0, later)
    go false later = later

but_parted : (m pid : ℕ) (all ps : List Process) → AwaitedBut m all ps → AwaitedBut m all (map (without_parent pid) ps)
but_parted m pid all [] h = tt
but_parted m pid all (p ∷ ps) h = (h.0, but_parted m pid all ps h.1)

-- the one of the number wakes
but_roused : (m : ℕ) (all ps : List Process) → AwaitedBut m all ps → AllAwaited all (map (awake m) ps)
but_roused m all [] h = tt
but_roused m all (p ∷ ps) h = ((λ s. go (p.pid == m) refl s), but_roused m all ps h.1)
  where
    go : (b : Bool) → (p.pid == m) ≡ b → (if b then false else p.asleep) ≡ true → has_live p.pid all ≡ true
    go true e s = absurd cc
    go false e s = by (h.0 s)
      where
        by : (p.pid ≡ m) ⊎ (has_live p.pid all ≡ true) → has_live p.pid all ≡ true
        by (inl same) = absurd (let no : true ≡ false = sym (eq-eqb p.pid m same) ∙ e in cc)
        by (inr live) = live

-- none has the number 0
abbrev pub NoneZero : List Process → Type 0
NoneZero [] = Unit {0}
NoneZero (p ∷ ps) = (p.pid ≢ 0) × NoneZero ps

pub none_zero : (ps : List Process) → AllLower ps → NoneZero ps
none_zero [] h = tt
none_zero (p ∷ ps) h = ((λ z. above p.parent p.pid h.0 z), none_zero ps h.1)
  where
    above : (a b : ℕ) → a < b → b ≡ 0 → ⊥
    above a b lt z = absurd (let no : a < 0 = omega (arith, lt, z) in omega arith)

-- where the number is 0 all are awaited
but_none : (all ps : List Process) → NoneZero ps → AwaitedBut 0 all ps → AllAwaited all ps
but_none all [] none h = tt
but_none all (p ∷ ps) none h = ((λ s. go (h.0 s)), but_none all ps none.1 h.1)
  where
    go : (p.pid ≡ 0) ⊎ (has_live p.pid all ≡ true) → has_live p.pid all ≡ true
    go (inl z) = absurd (none.0 z)
    go (inr live) = live

none_sifted : (ps : List Process) (test : Process → Bool) → NoneZero ps → NoneZero (filter test ps)
none_sifted [] test h = tt
none_sifted (p ∷ ps) test h = go (test p) (none_sifted ps test h.1)
  where
    go : (b : Bool) → NoneZero (filter test ps) → NoneZero (cond b (p ∷ filter test ps) (filter test ps))
    go true later = (h.0, later)
    go false later = later

none_parted : (ps : List Process) (pid : ℕ) → NoneZero ps → NoneZero (map (without_parent pid) ps)
none_parted [] pid h = tt
none_parted (p ∷ ps) pid h = (h.0, none_parted ps pid h.1)

none_replaced : (ps : List Process) (q : Process) → NoneZero ps → NoneZero (replaced ps q)
unfolding replaced
none_replaced [] q h = tt
none_replaced (p ∷ ps) q h = go (p.pid == q.pid) refl (none_replaced ps q h.1)
  where
    go : (b : Bool) → (p.pid == q.pid) ≡ b → NoneZero (replaced ps q) → NoneZero (replaced_by b q p ps (replaced ps q))
    go true e later = ((λ z. h.0 (eqb-true p.pid q.pid e ∙ z)), h.1)
    go false e later = (h.0, later)

-- who is another than the one that ends has its child still, or sleeps for the one that ends
apart_but : (m n : ℕ) (all now : List Process) (x : Process) → ((k : ℕ) → k ≢ n → k ≢ m → GoesOn k all now) → x.pid ≢ n
    → (x.asleep ≡ true → has_live x.pid all ≡ true) → x.asleep ≡ true → (x.pid ≡ m) ⊎ (has_live x.pid now ≡ true)
apart_but m n all now x goes apart h s = go (x.pid == m) refl
  where
    differs : (a b : ℕ) → (a == b) ≡ false → a ≢ b
    differs a b e same = let no : true ≡ false = sym (eq-eqb a b same) ∙ e in absurd cc

    go : (b : Bool) → (x.pid == m) ≡ b → (x.pid ≡ m) ⊎ (has_live x.pid now ≡ true)
    go true e = inl (eqb-true x.pid m e)
    go false e = inr (goes x.pid apart (differs x.pid m e) (h s))

all_apart_but : (m n : ℕ) (all now ps : List Process) → ((k : ℕ) → k ≢ n → k ≢ m → GoesOn k all now) → IsAbsent n (map (λ (q : Process). q.pid) ps)
    → AllAwaited all ps → AwaitedBut m now ps
all_apart_but m n all now [] goes absent h = tt
all_apart_but m n all now (x ∷ xs) goes absent h = (apart_but m n all now x goes absent.0 h.0, all_apart_but m n all now xs goes absent.1 h.1)

but_ended : (m pid : ℕ) (all now ps : List Process) (p q : Process) → ((k : ℕ) → k ≢ pid → k ≢ m → GoesOn k all now)
    → AllDistinct (map (λ (r : Process). r.pid) ps)
    → find (λ r. r.pid == pid) ps ≡ Some p → q.pid ≡ pid → q.asleep ≡ false → AllAwaited all ps → AwaitedBut m now (replaced ps q)
unfolding replaced
but_ended m pid all now [] p q goes own f number awake h = absurd cc
but_ended m pid all now (x ∷ xs) p q goes own f number awake h = go (λ z. but_ended m pid all now xs p q goes own.1 z number awake h.1) (x.pid == pid) refl f
  where
    at : (b : Bool) → (x.pid == pid) ≡ b → AwaitedBut m now (replaced_by b q x xs (replaced xs q))
        → AwaitedBut m now (replaced_by (x.pid == q.pid) q x xs (replaced xs q))
    at b e k = subst (λ (c : Bool). AwaitedBut m now (replaced_by c q x xs (replaced xs q))) (sym (ap (λ (n : ℕ). x.pid == n) number ∙ e)) k

    differs : (a b : ℕ) → (a == b) ≡ false → a ≢ b
    differs a b e same = let no : true ≡ false = sym (eq-eqb a b same) ∙ e in absurd cc

    go : (find (λ r. r.pid == pid) xs ≡ Some p → AwaitedBut m now (replaced xs q)) → (b : Bool) → (x.pid == pid) ≡ b
        → cond b (Some x) (find (λ r. r.pid == pid) xs) ≡ Some p
        → AwaitedBut m now (replaced_by (x.pid == q.pid) q x xs (replaced xs q))
    go later true e z =
        at true e (
          (λ s. absurd (let no : false ≡ true = sym awake ∙ s in cc)),
          all_apart_but m pid all now xs goes (subst (λ (n : ℕ). IsAbsent n (map (λ (r : Process). r.pid) xs)) (eqb-true x.pid pid e) own.0) h.1,
        )
    go later false e z = at false e (apart_but m pid all now x goes (differs x.pid pid e) h.0, later z)

-- the processes once one of them is a zombie, without its zombie children, whose others have no parent
abbrev pub left_by : ℕ → List Process → Process → List Process
left_by pid ps q = map (without_parent pid) (filter (λ r. not (is_zombie_child pid r)) (replaced ps q))

pub zombies_out : (pid : ℕ) (ps : List Process) → LeavesOut (λ r. not (is_zombie_child pid r)) ps
zombies_out pid [] = tt
zombies_out pid (p ∷ ps) = ((λ e. second (p.parent == pid) (is_zombie p.holding) e), zombies_out pid ps)
  where
    second : (a b : Bool) → not (a && b) ≡ false → b ≡ true
    second true true e = refl
    second true false e = absurd cc
    second false b e = absurd cc

module _ (pid : ℕ) (ps : List Process) (p q : Process) where
  pub record Ends : Type 0 where
    pub found : find (λ r. r.pid == pid) ps ≡ Some p
    pub number : q.pid ≡ pid
    pub same : p.pid ≡ pid
    pub awake : q.asleep ≡ false
    pub own : AllDistinct (map (λ (r : Process). r.pid) ps)
    pub awaited : AllAwaited ps ps

  left_goes : Ends → (n : ℕ) → n ≢ pid → n ≢ p.parent → GoesOn n ps (left_by pid ps q)
  left_goes e n a b h =
      goes_mapped n (filter (λ r. not (is_zombie_child pid r)) (replaced ps q)) (without_parent pid) (λ x. live_parted n pid x a)
      (goes_sifted n (replaced ps q) (λ r. not (is_zombie_child pid r)) (zombies_out pid (replaced ps q))
      (goes_replaced n pid ps p q e.found (e.number ∙ sym e.same) (λ l. absurd (none l)) h))
    where
      none : lives_for n p ≡ true → ⊥
      none l = b (sym (eqb-true p.parent n (and_parts (p.parent == n) (not (is_zombie p.holding)) l).0))

  left_but : Ends → AwaitedBut p.parent (left_by pid ps q) (left_by pid ps q)
  left_but e =
      but_parted p.parent pid (left_by pid ps q) (filter (λ r. not (is_zombie_child pid r)) (replaced ps q))
      (but_sifted p.parent (left_by pid ps q) (replaced ps q) (λ r. not (is_zombie_child pid r))
      (but_ended p.parent pid ps (left_by pid ps q) ps p q (left_goes e) e.own e.found e.number e.awake e.awaited))

  -- where the process that ends has a parent, that one wakes
  pub awaited_left : Ends → AllAwaited (map (awake p.parent) (left_by pid ps q)) (map (awake p.parent) (left_by pid ps q))
  awaited_left e =
      awaited_to (left_by pid ps q) (map (awake p.parent) (left_by pid ps q)) (map (awake p.parent) (left_by pid ps q)) (λ n. goes_mapped n (left_by pid ps q) (awake p.parent) (λ x l. l))
      (but_roused p.parent (left_by pid ps q) (left_by pid ps q) (left_but e))

  -- where it has none, it goes: all of its number are zombies
  pub awaited_gone : Ends → NoneZero ps → p.parent ≡ 0 → LeavesOut (λ r. not (r.pid == pid)) (left_by pid ps q)
      → AllAwaited (filter (λ r. not (r.pid == pid)) (left_by pid ps q)) (filter (λ r. not (r.pid == pid)) (left_by pid ps q))
  awaited_gone e none orphan out =
      awaited_to (left_by pid ps q) (filter (λ r. not (r.pid == pid)) (left_by pid ps q)) (filter (λ r. not (r.pid == pid)) (left_by pid ps q))
      (λ n. goes_sifted n (left_by pid ps q) (λ r. not (r.pid == pid)) out)
      (awaited_sifted (left_by pid ps q) (left_by pid ps q) (λ r. not (r.pid == pid))
      (but_none (left_by pid ps q) (left_by pid ps q) zeros (subst (λ (m : ℕ). AwaitedBut m (left_by pid ps q) (left_by pid ps q)) orphan (left_but e))))
    where
      zeros : NoneZero (left_by pid ps q)
      zeros = none_parted (filter (λ r. not (is_zombie_child pid r)) (replaced ps q)) pid (none_sifted (replaced ps q) (λ r. not (is_zombie_child pid r)) (none_replaced ps q none))

-- ---- where all of a number are zombies

-- each of these of this number is a zombie
abbrev pub AllZombies : ℕ → List Process → Type 0
AllZombies pid [] = Unit {0}
AllZombies pid (p ∷ ps) = ((p.pid == pid) ≡ true → is_zombie p.holding ≡ true) × AllZombies pid ps

absent_zombies : (pid : ℕ) (ps : List Process) → IsAbsent pid (map (λ (r : Process). r.pid) ps) → AllZombies pid ps
absent_zombies pid [] h = tt
absent_zombies pid (p ∷ ps) h = ((λ e. absurd (h.0 (eqb-true p.pid pid e))), absent_zombies pid ps h.1)

zombies_replaced : (pid : ℕ) (ps : List Process) (p q : Process) → find (λ r. r.pid == pid) ps ≡ Some p → q.pid ≡ pid → is_zombie q.holding ≡ true
    → AllDistinct (map (λ (r : Process). r.pid) ps) → AllZombies pid (replaced ps q)
unfolding replaced
zombies_replaced pid [] p q f number z own = absurd cc
zombies_replaced pid (x ∷ xs) p q f number z own = go (λ k. zombies_replaced pid xs p q k number z own.1) (x.pid == pid) refl f
  where
    at : (b : Bool) → (x.pid == pid) ≡ b → AllZombies pid (replaced_by b q x xs (replaced xs q))
        → AllZombies pid (replaced_by (x.pid == q.pid) q x xs (replaced xs q))
    at b e k = subst (λ (c : Bool). AllZombies pid (replaced_by c q x xs (replaced xs q))) (sym (ap (λ (n : ℕ). x.pid == n) number ∙ e)) k

    go : (find (λ r. r.pid == pid) xs ≡ Some p → AllZombies pid (replaced xs q)) → (b : Bool) → (x.pid == pid) ≡ b
        → cond b (Some x) (find (λ r. r.pid == pid) xs) ≡ Some p
        → AllZombies pid (replaced_by (x.pid == q.pid) q x xs (replaced xs q))
    go later true e k = at true e ((λ s. z), absent_zombies pid xs (subst (λ (n : ℕ). IsAbsent n (map (λ (r : Process). r.pid) xs)) (eqb-true x.pid pid e) own.0))
    go later false e k = at false e ((λ s. absurd (let no : true ≡ false = sym s ∙ e in cc)), later k)

zombies_sifted : (pid : ℕ) (ps : List Process) (test : Process → Bool) → AllZombies pid ps → AllZombies pid (filter test ps)
zombies_sifted pid [] test h = tt
zombies_sifted pid (p ∷ ps) test h = go (test p) (zombies_sifted pid ps test h.1)
  where
    go : (b : Bool) → AllZombies pid (filter test ps) → AllZombies pid (cond b (p ∷ filter test ps) (filter test ps))
    go true later = (h.0, later)
    go false later = later

zombies_parted : (pid n : ℕ) (ps : List Process) → AllZombies pid ps → AllZombies pid (map (without_parent n) ps)
zombies_parted pid n [] h = tt
zombies_parted pid n (p ∷ ps) h = (h.0, zombies_parted pid n ps h.1)

pub leaves_zombies : (pid : ℕ) (ps : List Process) → AllZombies pid ps → LeavesOut (λ r. not (r.pid == pid)) ps
leaves_zombies pid [] h = tt
leaves_zombies pid (p ∷ ps) h = ((λ e. h.0 (turned (p.pid == pid) e)), leaves_zombies pid ps h.1)
  where
    turned : (b : Bool) → not b ≡ false → b ≡ true
    turned true e = refl
    turned false e = absurd cc

pub left_zombies : (pid : ℕ) (ps : List Process) (p q : Process) → find (λ r. r.pid == pid) ps ≡ Some p → q.pid ≡ pid → is_zombie q.holding ≡ true
    → AllDistinct (map (λ (r : Process). r.pid) ps) → LeavesOut (λ r. not (r.pid == pid)) (left_by pid ps q)
left_zombies pid ps p q f number z own =
    leaves_zombies pid (left_by pid ps q) (zombies_parted pid pid (filter (λ r. not (is_zombie_child pid r)) (replaced ps q))
    (zombies_sifted pid (replaced ps q) (λ r. not (is_zombie_child pid r)) (zombies_replaced pid ps p q f number z own)))

-- another takes the place of one
pub zombies_put : (pid : ℕ) (ps : List Process) (q : Process) → q.pid ≢ pid → AllZombies pid ps → AllZombies pid (replaced ps q)
unfolding replaced
zombies_put pid [] q apart h = tt
zombies_put pid (x ∷ xs) q apart h = go (x.pid == q.pid) (zombies_put pid xs q apart h.1)
  where
    go : (b : Bool) → AllZombies pid (replaced xs q) → AllZombies pid (replaced_by b q x xs (replaced xs q))
    go true later = ((λ e. absurd (apart (eqb-true q.pid pid e))), h.1)
    go false later = (h.0, later)

-- a zombie that is found is alone of its number
pub found_zombies : (pid : ℕ) (ps : List Process) (p : Process) → find (λ r. r.pid == pid) ps ≡ Some p → is_zombie p.holding ≡ true
    → AllDistinct (map (λ (r : Process). r.pid) ps) → AllZombies pid ps
found_zombies pid [] p f z own = tt
found_zombies pid (x ∷ xs) p f z own = go (λ k. found_zombies pid xs p k z own.1) (x.pid == pid) refl f
  where
    go : (find (λ r. r.pid == pid) xs ≡ Some p → AllZombies pid xs) → (b : Bool) → (x.pid == pid) ≡ b
        → cond b (Some x) (find (λ r. r.pid == pid) xs) ≡ Some p
        → ((x.pid == pid) ≡ true → is_zombie x.holding ≡ true) × AllZombies pid xs
    go later true e k = (
      (λ s. ap (λ (r : Process). is_zombie r.holding) (let same : x ≡ p = cc in same) ∙ z),
      absent_zombies pid xs
          (subst (λ (n : ℕ). IsAbsent n (map (λ (r : Process). r.pid) xs)) (eqb-true x.pid pid e) own.0),
    )
    go later false e k = ((λ s. absurd (let no : true ≡ false = sym s ∙ e in cc)), later k)

-- ---- who waits for a child that is no zombie

pub live_found : (pid : ℕ) (ps : List Process) (c : Process) → find (λ q. q.parent == pid) ps ≡ Some c → find (is_zombie_child pid) ps ≡ None
    → has_live pid ps ≡ true
live_found pid [] c h n = absurd cc
live_found pid (x ∷ xs) c h n = go (x.parent == pid) (is_zombie x.holding) (live_found pid xs c) h n
  where
    go : (a b : Bool) → (find (λ q. q.parent == pid) xs ≡ Some c → find (is_zombie_child pid) xs ≡ None → has_live pid xs ≡ true)
        → cond a (Some x) (find (λ q. q.parent == pid) xs) ≡ Some c → cond (a && b) (Some x) (find (is_zombie_child pid) xs) ≡ None → ((a && not b) || has_live pid xs) ≡ true
    go true true later h n = absurd cc
    go true false later h n = refl
    go false b later h n = later h n
