-- Processes that each stand at a stage, and what is left of all of them, as the list of the processes changes.
use Rattle.std.proofs.Common.{◌≡◌, ℕ, ◌+◌, ◌≤◌, ◌==◌, Bool, true, false, cond, List, [], ◌∷◌, ◌++◌, length, map, filter, find, Some, refl, sym, ap, ◌∙◌, subst, arith, eq-eqb}
use Rattle.std.specs.Prelude.{if◌then◌else◌}
use Rattle.std.proofs.lemmas.Bool.{eqb-true}
use Rattle.flat_state.specs.Space.{Space}
use Rattle.flat_state.specs.Flat.{Process}
use Rattle.flat_state.specs.Change.{replaced_by, replaced, returned_by, returned, lends_to, is_zombie, without_parent, awake}
use Rattle.load_maker.specs.Stages.{Stage, Gone, StandsAtStage, Lives, Ended, AllStand}
use Rattle.load_maker.specs.Left.{forks_left, total}

-- ---- one that is found, and another in its place

pub record Put (pages : ℕ) (ks : List Stage) (old new : Stage) (ps : List Process) : Type 0 where
  pub stages : List Stage
  pub stand : AllStand pages stages ps
  pub totals : (f : Stage → ℕ) → total f stages + f old ≡ total f ks + f new

pub record Found (pages : ℕ) (ks : List Stage) (ps : List Process) (p : Process) : Type 0 where
  pub stage : Stage
  pub stands : StandsAtStage pages stage p
  pub put : (q : Process) (k : Stage) → q.pid ≡ p.pid → StandsAtStage pages k q → Put pages ks stage k (replaced ps q)

head_totals : (f : Stage → ℕ) (k k' : Stage) (ks : List Stage) → total f (k' ∷ ks) + f k ≡ total f (k ∷ ks) + f k'
head_totals f k k' ks = omega arith

tail_totals : (f : Stage → ℕ) (x : Stage) (a b c d : ℕ) → a + c ≡ b + d → f x + a + c ≡ f x + b + d
tail_totals f x a b c d e = omega (arith, e)

pub found : (pages : ℕ) (ks : List Stage) (ps : List Process) (pid : ℕ) (p : Process) → AllStand pages ks ps → find (λ q. q.pid == pid) ps ≡ Some p
    → Found pages ks ps p
unfolding replaced
found pages [] [] pid p st h = absurd cc
found pages [] (x ∷ xs) pid p st h = absurd st
found pages (k ∷ ks) [] pid p st h = absurd st
found pages (k ∷ ks) (x ∷ xs) pid p st h = go (λ z. found pages ks xs pid p st.1 z) (x.pid == pid) refl h
  where
    here : (x.pid == pid) ≡ true → x ≡ p → Found pages (k ∷ ks) (x ∷ xs) p
    here e same = record {
      stage = k;
      stands = subst (StandsAtStage pages k) same st.0;
      put = λ q k' number stands. record {
        stages = k' ∷ ks;
        stand = subst (λ (b : Bool). AllStand pages (k' ∷ ks) (replaced_by b q x xs (replaced xs q))) (sym (eq-eqb x.pid q.pid (ap (λ (r : Process). r.pid) same ∙ sym number)))
            (stands, st.1);
        totals = λ f. head_totals f k k' ks;
      };
    }

    behind : (x.pid == pid) ≡ false → p.pid ≡ pid → Found pages ks xs p → Found pages (k ∷ ks) (x ∷ xs) p
    behind e n r = record {
      stage = r.stage;
      stands = r.stands;
      put = λ q k' number stands. put q k' number (r.put q k' number stands);
    }
      where
        put : (q : Process) (k' : Stage) → q.pid ≡ p.pid → Put pages ks r.stage k' (replaced xs q)
            → Put pages (k ∷ ks) r.stage k' (replaced_by (x.pid == q.pid) q x xs (replaced xs q))
        put q k' number a =
            let apart : (x.pid == q.pid) ≡ false = ap (λ (m : ℕ). x.pid == m) (number ∙ n) ∙ e in
            record {
              stages = k ∷ a.stages;
              stand = subst (λ (b : Bool). AllStand pages (k ∷ a.stages) (replaced_by b q x xs (replaced xs q))) (sym apart) (st.0, a.stand);
              totals = λ f. tail_totals f k (total f a.stages) (total f ks) (f r.stage) (f k') (a.totals f);
            }

    go : (find (λ q. q.pid == pid) xs ≡ Some p → Found pages ks xs p) → (b : Bool) → (x.pid == pid) ≡ b
        → cond b (Some x) (find (λ q. q.pid == pid) xs) ≡ Some p → Found pages (k ∷ ks) (x ∷ xs) p
    go later true e z = here e (let same : x ≡ p = cc in same)
    go later false e z = behind e (eqb-true p.pid pid (Rattle.run_laws.proofs.Finding.found_passes (λ q. q.pid == pid) xs p z)) (later z)

-- ---- one more, and those that go

pub one_more : (pages : ℕ) (ks : List Stage) (ps : List Process) (k : Stage) (p : Process) → AllStand pages ks ps → StandsAtStage pages k p
    → AllStand pages (ks ++ k ∷ []) (ps ++ p ∷ [])
one_more pages [] [] k p st s = (s, tt)
one_more pages [] (x ∷ xs) k p st s = absurd st
one_more pages (y ∷ ks) [] k p st s = absurd st
one_more pages (y ∷ ks) (x ∷ xs) k p st s = (st.0, one_more pages ks xs k p st.1 s)

pub total_more : (f : Stage → ℕ) (ks : List Stage) (k : Stage) → total f (ks ++ k ∷ []) ≡ total f ks + f k
total_more f [] k = omega arith
total_more f (x ∷ ks) k = let ih = total_more f ks k in omega (arith, ih)

-- some zombies have gone
pub record Fewer (pages : ℕ) (ks : List Stage) (ps : List Process) : Type 0 where
  pub stages : List Stage
  pub stand : AllStand pages stages ps
  pub totals : (f : Stage → ℕ) → f Gone ≡ 0 → total f stages ≡ total f ks
  pub fewer : (f : Stage → ℕ) → total f stages ≤ total f ks

pub gone_of : (pages : ℕ) (k : Stage) (p : Process) → StandsAtStage pages k p → is_zombie p.holding ≡ true → k ≡ Gone
gone_of pages k p (Lives g at) z = absurd (let no : false ≡ true = sym (ap is_zombie at.holds) ∙ z in cc)
gone_of pages k p (Ended e status h a) z = e

-- all that a test leaves out are zombies
abbrev pub LeavesOut : (Process → Bool) → List Process → Type 0
LeavesOut test [] = Unit {0}
LeavesOut test (p ∷ ps) = (test p ≡ false → is_zombie p.holding ≡ true) × LeavesOut test ps

pub sifted : (pages : ℕ) (ks : List Stage) (ps : List Process) (test : Process → Bool) → AllStand pages ks ps → LeavesOut test ps
    → Fewer pages ks (filter test ps)
sifted pages [] [] test st out = record { stages = []; stand = tt; totals = λ f z. refl; fewer = λ f. omega arith }
sifted pages [] (x ∷ xs) test st out = absurd st
sifted pages (k ∷ ks) [] test st out = absurd st
sifted pages (k ∷ ks) (x ∷ xs) test st out = go (test x) refl (sifted pages ks xs test st.1 out.1)
  where
    more : (f : Stage → ℕ) (a b : ℕ) → a ≡ b → f k + a ≡ f k + b
    more f a b e = omega (arith, e)

    most : (f : Stage → ℕ) (a b : ℕ) → a ≤ b → f k + a ≤ f k + b
    most f a b e = omega (arith, e)

    less : (f : Stage → ℕ) (a b : ℕ) → a ≤ b → a ≤ f k + b
    less f a b e = omega (arith, e)

    without : (f : Stage → ℕ) (a b : ℕ) → f k ≡ 0 → a ≡ b → a ≡ f k + b
    without f a b z e = omega (arith, z, e)

    go : (b : Bool) → test x ≡ b → Fewer pages ks (filter test xs) → Fewer pages (k ∷ ks) (cond b (x ∷ filter test xs) (filter test xs))
    go true e r = record {
      stages = k ∷ r.stages;
      stand = (st.0, r.stand);
      totals = λ f z. more f (total f r.stages) (total f ks) (r.totals f z);
      fewer = λ f. most f (total f r.stages)
          (total f ks) (r.fewer f);
    }
    go false e r =
        let g : k ≡ Gone = gone_of pages k x st.0 (out.0 e) in
        record {
          stages = r.stages;
          stand = r.stand;
          totals = λ f z. without f (total f r.stages) (total f ks) (ap f g ∙ z) (r.totals f z);
          fewer = λ f. less f (total f r.stages) (total f ks) (r.fewer f);
        }

pub mapped : (pages : ℕ) (ks : List Stage) (ps : List Process) (g : Process → Process)
    → ((k : Stage) (p : Process) → StandsAtStage pages k p → StandsAtStage pages k (g p))
    → AllStand pages ks ps → AllStand pages ks (map g ps)
mapped pages [] [] g keeps st = tt
mapped pages [] (x ∷ xs) g keeps st = absurd st
mapped pages (k ∷ ks) [] g keeps st = absurd st
mapped pages (k ∷ ks) (x ∷ xs) g keeps st = (keeps k x st.0, mapped pages ks xs g keeps st.1)

-- without a parent, and awake, a process stands where it stood
pub parted : (pages pid : ℕ) (k : Stage) (p : Process) → StandsAtStage pages k p → StandsAtStage pages k (without_parent pid p)
parted pages pid k p (Ended e status h a) = Ended e status h a
parted pages pid k p (Lives g at) = Lives g (record {
  space = at.space;
  bank = at.bank;
  holds = at.holds;
  text = at.text;
  size = at.size;
  stack = at.stack;
  registers = at.registers;
  longwords = at.longwords;
  says = at.says;
  orphan = λ f. none (p.parent == pid) p.parent (at.orphan f);
  awake = at.awake;
})
  where
    none : (b : Bool) (n : ℕ) → n ≡ 0 → (if b then 0 else n) ≡ 0
    none true n e = refl
    none false n e = e

pub roused : (pages pid : ℕ) (k : Stage) (p : Process) → StandsAtStage pages k p → StandsAtStage pages k (awake pid p)
roused pages pid k p (Ended e status h a) = Ended e status h (still (p.pid == pid) p.asleep a)
  where
    still : (b a : Bool) → a ≡ false → (if b then false else a) ≡ false
    still true a e = refl
    still false a e = e
roused pages pid k p (Lives g at) = Lives g (record {
  space = at.space;
  bank = at.bank;
  holds = at.holds;
  text = at.text;
  size = at.size;
  stack = at.stack;
  registers = at.registers;
  longwords = at.longwords;
  says = at.says;
  orphan = at.orphan;
  awake = λ w. still (p.pid == pid) p.asleep (at.awake w);
})
  where
    still : (b a : Bool) → a ≡ false → (if b then false else a) ≡ false
    still true a e = refl
    still false a e = e

-- nobody lends
pub none_returned : (pages : ℕ) (ks : List Stage) (ps : List Process) (pid : ℕ) (s : Space) → AllStand pages ks ps → returned pid s ps ≡ ps
unfolding returned
none_returned pages [] [] pid s st = refl
none_returned pages [] (x ∷ xs) pid s st = absurd st
none_returned pages (k ∷ ks) [] pid s st = absurd st
none_returned pages (k ∷ ks) (x ∷ xs) pid s st =
    ap (λ (b : Bool). returned_by b s x xs (returned pid s xs)) (lends k x st.0) ∙ ap (λ (qs : List Process). x ∷ qs) (none_returned pages ks xs pid s st.1)
  where
    lends : (k : Stage) (x : Process) → StandsAtStage pages k x → lends_to pid x.holding ≡ false
    lends k x (Lives g at) = ap (lends_to pid) at.holds
    lends k x (Ended e status h a) = ap (lends_to pid) h

-- as many processes as stages, and one more for each fork to come
abbrev pub heads : Stage → ℕ
heads k = 1 + forks_left k

pub few_heads : (pages : ℕ) (ks : List Stage) (ps : List Process) → AllStand pages ks ps → length ps + total forks_left ks ≤ total heads ks
few_heads pages [] [] st = omega arith
few_heads pages [] (x ∷ xs) st = absurd st
few_heads pages (k ∷ ks) [] st = absurd st
few_heads pages (k ∷ ks) (x ∷ xs) st = let ih = few_heads pages ks xs st.1 in omega (arith, ih)
