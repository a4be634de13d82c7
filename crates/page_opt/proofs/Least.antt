-- No plan has fewer faults: at each point, for any front of the references to come, the other cache has at
-- most as many more of its pages as it has had more faults.
use Rattle.std.proofs.Common.{◌≡◌, ℕ, ◌+◌, ◌≤◌, Bool, true, false, cond, List, [], ◌∷◌, ◌++◌, length, Option, Some, None, refl, sym, ap, ◌∙◌, subst, arith, inl, inr, ◌⊎◌}
use Rattle.std.proofs.lemmas.Bool.{cases_Bool}
use Rattle.page_opt.specs.declared.Victim.{Victim}
use Rattle.page_opt.specs.Plans.{Run, has, then, serve, runs, all_left, faults_of, plan_faults}
use Rattle.vm_facts.specs.Lists.{without_first}
use Rattle.page_opt.specs.Furthest.{furthest_victims}
use Rattle.page_opt.specs.Cache.{bit, count_in, IsCache}
use Rattle.page_opt.proofs.Counts.{count, count_more, tally_all, tally_le, hasnt_times, tally-without}
use Rattle.page_opt.proofs.Uses.{furthest_last}
use Rattle.page_opt.proofs.Served.{Step, serve_gives, step_small, runs_none}
use Rattle.page_opt.proofs.Chosen.{IsFull, Chosen, chosen, after, after_hit, after_room, after_full, after_is_cache, run_from, next_run, chosen_serves, counted}

-- the best cache against another, with their faults so far
pub Ahead : List ℕ → List ℕ → ℕ → List ℕ → ℕ → Type 0
Ahead ps best b other c = (xs ys : List ℕ) → ps ≡ xs ++ ys → count xs other + b ≤ count xs best + c

-- what the best cache is after a reference, for a front xs of the references to come
pub record BestHit (p : ℕ) (xs best later : List ℕ) (b b' : ℕ) : Type 0 where
  pub there : count_in p best ≤ 1
  pub same : count xs later ≡ count xs best
  pub faults : b' ≡ b

pub record BestMiss (n p : ℕ) (xs best later : List ℕ) (b b' : ℕ) : Type 0 where
  pub away : count_in p best ≡ 0
  pub faults : b' ≡ b + 1
  pub kept : (count xs later ≡ count xs best + bit (has p xs)) ⊎ (count xs later + 1 ≡ n + bit (has p xs))

-- where the furthest page has left
full_kept : (n p : ℕ) (xs ys cache : List ℕ) → IsCache n cache → (f : IsFull n p (xs ++ ys) cache)
    → (bit (has p xs) + count xs (without_first f.victim cache) ≡ count xs cache + bit (has p xs))
    ⊎ (bit (has p xs) + count xs (without_first f.victim cache) + 1 ≡ n + bit (has p xs))
full_kept n p xs ys cache c f =
    let one = tally-without (λ q. has q xs) f.victim cache f.furthest.there in
    elim (cases_Bool (has f.victim xs)) [
      | inl again ↦
          let all = tally_all (λ q. has q xs) cache (furthest_last cache xs ys f.victim f.furthest again) in
          let bits = ap bit again in
          let l = f.full in
          let s = c.small in
          inr (omega arith)
      | inr never ↦ let bits = ap bit never in inl (omega arith)
    ]

pub best_moves : (n p : ℕ) (xs ys cache : List ℕ) (b : ℕ) → IsCache n cache → Chosen n p (xs ++ ys) cache
    → BestHit p xs cache (after n p (xs ++ ys) cache) b (counted (has p cache) b)
    ⊎ BestMiss n p xs cache (after n p (xs ++ ys) cache) b (counted (has p cache) b)
best_moves n p xs ys cache b c (inl h) = inl (record {
  there = c.once p;
  same = ap (λ (qs : List ℕ). count xs qs) (after_hit n p (xs ++ ys) cache h);
  faults = ap (λ (t : Bool). counted t b) h.there;
})
best_moves n p xs ys cache b c (inr (inl r)) = inr (record {
  away = hasnt_times p cache r.away;
  faults = ap (λ (t : Bool). counted t b) r.away;
  kept = let e = ap (λ (qs : List ℕ). count xs qs) (after_room n p (xs ++ ys) cache r) in inl (omega arith);
})
best_moves n p xs ys cache b c (inr (inr f)) = inr (record {
  away = hasnt_times p cache f.away;
  faults = ap (λ (t : Bool). counted t b) f.away;
  kept =
      let e = ap (λ (qs : List ℕ). count xs qs) (after_full n p (xs ++ ys) cache f) in
      elim (full_kept n p xs ys cache c f) [ inl more ↦ inl (omega arith) | inr all ↦ inr (omega arith) ];
})

zero_count : (qs : List ℕ) → count [] qs ≡ 0
unfolding has
zero_count [] = refl
zero_count (q ∷ qs) = let rest = zero_count qs in omega arith

-- the invariant at the front p ∷ xs, at p alone and at none
pub record Fronts (p : ℕ) (xs best : List ℕ) (b : ℕ) (other : List ℕ) (c : ℕ) : Type 0 where
  pub none : b ≤ c
  pub one : count_in p other + b ≤ count_in p best + c
  pub more : count xs other + cond (has p xs) 0 (count_in p other) + b ≤ count xs best + cond (has p xs) 0 (count_in p best) + c

pub fronts : (p : ℕ) (xs ys best : List ℕ) (b : ℕ) (other : List ℕ) (c : ℕ) → Ahead (p ∷ (xs ++ ys)) best b other c → Fronts p xs best b other c
unfolding Ahead has
fronts p xs ys best b other c a =
    let m = count_more p xs best in
    let o = count_more p xs other in
    let at = a (p ∷ xs) ys refl in
    let m₁ = count_more p [] best in
    let o₁ = count_more p [] other in
    let at₁ = a (p ∷ []) (xs ++ ys) refl in
    let at₀ = a [] (p ∷ (xs ++ ys)) refl in
    let z = zero_count best in
    let z' = zero_count other in
    record { none = omega arith; one = omega arith; more = omega arith }

-- what counts where the references to come have the page, and where they don't
added : (h : Bool) (other best : ℕ)
    → ((bit h ≡ 1) × (cond h 0 other ≡ 0) × (cond h 0 best ≡ 0)) ⊎ ((bit h ≡ 0) × (cond h 0 other ≡ other) × (cond h 0 best ≡ best))
added true other best = inl (refl, refl, refl)
added false other best = inr (refl, refl, refl)

-- the two caches hold at most this many of the front's pages
most : (n p : ℕ) (xs : List ℕ) (c : Run) → length c.cache ≤ n → count xs c.cache + cond (has p xs) 0 (count_in p c.cache) ≤ n
unfolding has
most n p xs c l =
    let m = count_more p xs c.cache in
    let t = tally_le (λ q. has q (p ∷ xs)) c.cache in
    omega arith

ahead_step : (n p : ℕ) (xs best later : List ℕ) (b b' : ℕ) (c c' : Run) → Fronts p xs best b c.cache c.faults
    → length c.cache ≤ n
    → BestHit p xs best later b b' ⊎ BestMiss n p xs best later b b' → Step n p c c'
    → count xs c'.cache + b' ≤ count xs later + c'.faults
ahead_step n p xs best later b b' c c' f l (inl s) (inl t) =
    let same = ap (λ (qs : List ℕ). count xs qs) t.cache in
    let m = f.more in let o = t.there in let u = s.there in let e = s.same in let g = s.faults in let h = t.faults in
    elim (added (has p xs) (count_in p c.cache) (count_in p best)) [
      | inl a ↦ let a₁ = a.1 in let a₂ = a.2 in omega arith
      | inr a ↦ let a₁ = a.1 in let a₂ = a.2 in omega arith
    ]
ahead_step n p xs best later b b' c c' f l (inl s) (inr t) =
    let k = t.kept xs in
    let m = f.more in let o = t.away in let u = s.there in let e = s.same in let g = s.faults in let h = t.faults in
    elim (added (has p xs) (count_in p c.cache) (count_in p best)) [
      | inl a ↦ let a₀ = a.0 in let a₁ = a.1 in let a₂ = a.2 in omega arith
      | inr a ↦ let a₀ = a.0 in let a₁ = a.1 in let a₂ = a.2 in omega arith
    ]
ahead_step n p xs best later b b' c c' f l (inr s) (inl t) =
    let same = ap (λ (qs : List ℕ). count xs qs) t.cache in
    let top = most n p xs c l in
    let m = f.more in let i = f.one in let o = t.there in let u = s.away in let g = s.faults in let h = t.faults in
    elim (added (has p xs) (count_in p c.cache) (count_in p best)) [
      | inl a ↦ let a₀ = a.0 in let a₁ = a.1 in let a₂ = a.2 in elim s.kept [ inl k ↦ omega arith | inr k ↦ omega arith ]
      | inr a ↦ let a₀ = a.0 in let a₁ = a.1 in let a₂ = a.2 in elim s.kept [ inl k ↦ omega arith | inr k ↦ omega arith ]
    ]
ahead_step n p xs best later b b' c c' f l (inr s) (inr t) =
    let k' = t.kept xs in
    let r = t.room xs in
    let m = f.more in let z = f.none in let o = t.away in let u = s.away in let g = s.faults in let h = t.faults in
    elim (added (has p xs) (count_in p c.cache) (count_in p best)) [
      | inl a ↦ let a₀ = a.0 in let a₁ = a.1 in let a₂ = a.2 in elim s.kept [ inl k ↦ omega arith | inr k ↦ omega arith ]
      | inr a ↦ let a₀ = a.0 in let a₁ = a.1 in let a₂ = a.2 in elim s.kept [ inl k ↦ omega arith | inr k ↦ omega arith ]
    ]

pub ahead_next : (n at p : ℕ) (ps best : List ℕ) (b : ℕ) (c d : Run) → 1 ≤ n → IsCache n best → length c.cache ≤ n
    → Ahead (p ∷ ps) best b c.cache c.faults → serve n at p c ≡ Some d
    → Ahead ps (after n p ps best) (counted (has p best) b) d.cache d.faults
unfolding Ahead
ahead_next n at p ps best b c d some cache l a s = λ xs ys split.
    subst (λ (future : List ℕ). count xs d.cache + counted (has p best) b ≤ count xs (after n p future best) + d.faults) (sym split)
    (ahead_step n p xs best (after n p (xs ++ ys) best) b (counted (has p best) b) c d
    (fronts p xs ys best b c.cache c.faults (subst (λ (future : List ℕ). Ahead (p ∷ future) best b c.cache c.faults) split a))
    l
    (best_moves n p xs ys best b cache (chosen n p (xs ++ ys) best some))
    (serve_gives n at p c d s))

least : (n at : ℕ) (ps best : List ℕ) (b : ℕ) (b' c c' : Run) → 1 ≤ n → IsCache n best → length c.cache ≤ n → Ahead ps best b c.cache c.faults
    → runs n at ps (Some (run_from n at ps best b)) ≡ Some b' → runs n at ps (Some c) ≡ Some c' → b'.faults ≤ c'.faults
unfolding runs then Ahead run_from next_run
least n at [] best b b' c c' some cache l a s t =
    let z = a [] [] refl in
    let same : run_from n at [] best b ≡ b' = cc in
    let same' : c ≡ c' = cc in
    let e = ap (λ (r : Run). r.faults) same in
    let e' = ap (λ (r : Run). r.faults) same' in
    let n₀ = zero_count best in
    let n₁ = zero_count c.cache in
    omega arith
least n at (p ∷ ps) best b b' c c' some cache l a s t =
    go (serve n at p c) refl t
    (λ d e r.
    least n (at + 1) ps (after n p ps best) (counted (has p best) b) b' d c' some
    (after_is_cache n p ps best some cache)
    (step_small n p c d (serve_gives n at p c d e) l)
    (ahead_next n at p ps best b c d some cache l a e)
    (ap (λ (o : Option Run). runs n (at + 1) ps o) (sym (chosen_serves n at p ps best b some cache)) ∙ s)
    r)
  where
    go : (o : Option Run) → serve n at p c ≡ o → runs n (at + 1) ps o ≡ Some c'
        → ((d : Run) → serve n at p c ≡ Some d → runs n (at + 1) ps (Some d) ≡ Some c' → b'.faults ≤ c'.faults) → b'.faults ≤ c'.faults
    go None e r rest = let stays = runs_none n (at + 1) ps in cc
    go (Some d) e r rest = rest d e r

-- where a run ends with no victim left over, these are the faults
faults_gives : (o : Option Run) (m : ℕ) → faults_of o ≡ Some m → (r : Run) × (o ≡ Some r) × (r.faults ≡ m)
unfolding faults_of all_left
faults_gives None m e = cc
faults_gives (Some r) m e = (r, refl, go r.victims e)
  where
    go : (vs : List Victim) → all_left vs r.faults ≡ Some m → r.faults ≡ m
    go [] e = cc
    go (v ∷ vs) e = cc

pub empty_cache : (n : ℕ) → IsCache n []
empty_cache n = record { once = λ q. omega arith; small = omega arith }

-- Belady's victims have at most as many faults as any plan
pub least_of_all : (refs : List ℕ) (n : ℕ) (victims : List Victim) (k m : ℕ) → 1 ≤ n
    → plan_faults refs n (furthest_victims refs n) ≡ Some k → plan_faults refs n victims ≡ Some m → k ≤ m
unfolding plan_faults furthest_victims Ahead run_from
least_of_all refs n victims k m some s t =
    let mine = faults_gives (runs n 1 refs (Some (run_from n 1 refs [] 0))) k s in
    let theirs = faults_gives (runs n 1 refs (Some (record { cache = []; victims = victims; faults = 0 }))) m t in
    let l = least n 1 refs [] 0 mine.0 (record { cache = []; victims = victims; faults = 0 }) theirs.0 some (empty_cache n) (omega arith) (λ xs ys e. omega arith) mine.1 theirs.1 in
    let e = mine.2 in let f = theirs.2 in
    omega arith
