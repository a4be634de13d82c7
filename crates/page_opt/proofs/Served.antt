-- What a reference does to a run of any plan.
use Rattle.std.proofs.Common.{◌≡◌, ℕ, ◌+◌, ◌<◌, ◌≤◌, Bool, true, false, nat_lt, List, [], ◌∷◌, length, drop, Option, Some, None, refl, sym, ap, subst, arith, inl, inr, ◌⊎◌}
use Rattle.std.proofs.lemmas.Bool.{ltb-true}
use Rattle.std.proofs.lemmas.Option.{cond_some}
use Rattle.page_opt.specs.Plans.{Run, has, due, entered, left, then, served, serve, runs}
use Rattle.vm_facts.specs.Lists.{without_first}
use Rattle.page_opt.specs.Cache.{bit, count_in}
use Rattle.page_opt.proofs.Counts.{count, tally_le, has_times, hasnt_times, tally-without}

-- a hit
pub record Hit (p : ℕ) (c d : Run) : Type 0 where
  pub there : 1 ≤ count_in p c.cache
  pub cache : d.cache ≡ c.cache
  pub faults : d.faults ≡ c.faults

-- a fault in n frames: a page may leave, and the page enters
pub record Miss (n p : ℕ) (c d : Run) : Type 0 where
  pub away : count_in p c.cache ≡ 0
  pub faults : d.faults ≡ c.faults + 1
  pub kept : (xs : List ℕ) → count xs d.cache ≤ count xs c.cache + bit (has p xs)
  pub room : (xs : List ℕ) → count xs d.cache + 1 ≤ n + bit (has p xs)
  pub small : length d.cache ≤ n

abbrev pub Step : ℕ → ℕ → Run → Run → Type 0
Step n p c d = Hit p c d ⊎ Miss n p c d

unfoldable pub with_page : ℕ → Run → Run
with_page p c = record { cache = p ∷ c.cache; victims = c.victims; faults = c.faults + 1 }

pub entered_gives : (n p : ℕ) (c d : Run) → entered n p c ≡ Some d → (length c.cache < n) × (with_page p c ≡ d)
unfolding entered with_page
entered_gives n p c d e =
    let parts = cond_some (nat_lt (length c.cache) n) (with_page p c) d e in
    (ltb-true (length c.cache) n parts.0, parts.1)

-- a page enters after another may have left
enters : (n p : ℕ) (c m d : Run) → has p c.cache ≡ false → m.faults ≡ c.faults → ((xs : List ℕ) → count xs m.cache ≤ count xs c.cache)
    → entered n p m ≡ Some d → Miss n p c d
unfolding with_page
enters n p c m d away faults fewer e =
    let parts = entered_gives n p m d e in
    subst (λ (r : Run). Miss n p c r) parts.1 (record {
      away = hasnt_times p c.cache away;
      faults = ap (λ (k : ℕ). k + 1) faults;
      kept = λ xs. let f = fewer xs in omega arith;
      room = λ xs. let l = tally_le (λ q. has q xs) m.cache in let r = parts.0 in omega arith;
      small = let r = parts.0 in omega arith;
    })

pub left_gives : (v : ℕ) (c m : Run) → left v c ≡ Some m
    → (has v c.cache ≡ true) × (record { cache = without_first v c.cache; victims = drop 1 c.victims; faults = c.faults } ≡ m)
unfolding left
left_gives v c m e = cond_some (has v c.cache) (record { cache = without_first v c.cache; victims = drop 1 c.victims; faults = c.faults }) m e

served_gives : (n p : ℕ) (h : Bool) (o : Option ℕ) (c d : Run) → has p c.cache ≡ h → served n p h o c ≡ Some d → Step n p c d
unfolding served then
served_gives n p true None c d e s =
    let same : c ≡ d = cc in
    inl (subst (λ (r : Run). Hit p c r) same (record { there = has_times p c.cache e; cache = refl; faults = refl }))
served_gives n p true (Some v) c d e s = cc
served_gives n p false None c d e s = inr (enters n p c c d e refl (λ xs. omega arith) s)
served_gives n p false (Some v) c d e s = inr (go (left v c) refl s)
  where
    go : (o : Option Run) → left v c ≡ o → then (entered n p) o ≡ Some d → Miss n p c d
    go None l s = cc
    go (Some m) l s =
        let parts = left_gives v c m l in
        enters n p c m d e (sym (ap (λ (r : Run). r.faults) parts.1))
        (λ xs.
        let one = tally-without (λ q. has q xs) v c.cache parts.0 in
        let same = ap (λ (r : Run). count xs r.cache) parts.1 in
        omega arith)
        s

pub serve_gives : (n at p : ℕ) (c d : Run) → serve n at p c ≡ Some d → Step n p c d
unfolding serve
serve_gives n at p c d s = served_gives n p (has p c.cache) (due at c.victims) c d refl s

pub step_small : (n p : ℕ) (c d : Run) → Step n p c d → length c.cache ≤ n → length d.cache ≤ n
step_small n p c d (inl h) l = let e = ap (λ (qs : List ℕ). length qs) h.cache in omega arith
step_small n p c d (inr m) l = m.small

-- a run that has failed fails to the end
pub runs_none : (n at : ℕ) (ps : List ℕ) → runs n at ps None ≡ None
unfolding runs then
runs_none n at [] = refl
runs_none n at (p ∷ ps) = runs_none n (at + 1) ps
