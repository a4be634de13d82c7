-- Belady's victims are a plan: what a reference does to a run of theirs.
use Rattle.std.proofs.Common.{◌≡◌, ℕ, ◌+◌, ◌<◌, ◌≤◌, Bool, true, false, cond, nat_lt, List, [], ◌∷◌, ◌++◌, length, Option, Some, None, refl, sym, ap, ◌∙◌, subst, arith, inl, inr, ◌⊎◌}
use Rattle.std.specs.Prelude.{◌==◌, ◌||◌}
use Rattle.std.proofs.lemmas.Bool.{cases_Bool, lt-ltb, ltb-true, ltb-false, eq-eqb, ne_eqb}
use Rattle.page_opt.specs.declared.Victim.{Victim}
use Rattle.page_opt.specs.Plans.{Run, has, due, entered, left, then, served, serve}
use Rattle.vm_facts.specs.Lists.{without_first}
use Rattle.page_opt.specs.Furthest.{furthest, choice, cached, listed, victims_from}
use Rattle.page_opt.specs.Cache.{IsCache}
use Rattle.page_opt.proofs.Counts.{hasnt_times, tally-without, length-without}
use Rattle.page_opt.proofs.Members.{times_enter}
use Rattle.page_opt.proofs.Uses.{IsFurthest, furthest_gives}

-- the three cases of Belady's rule
pub record IsHit (n p : ℕ) (future cache : List ℕ) : Type 0 where
  pub there : has p cache ≡ true
  pub none : choice n p future cache ≡ None

pub record IsRoom (n p : ℕ) (future cache : List ℕ) : Type 0 where
  pub away : has p cache ≡ false
  pub room : length cache < n
  pub none : choice n p future cache ≡ None

pub record IsFull (n p : ℕ) (future cache : List ℕ) : Type 0 where
  pub away : has p cache ≡ false
  pub full : n ≤ length cache
  pub victim : ℕ
  pub furthest : IsFurthest future cache victim
  pub some : choice n p future cache ≡ Some victim

abbrev pub Chosen : ℕ → ℕ → List ℕ → List ℕ → Type 0
Chosen n p future cache = IsHit n p future cache ⊎ (IsRoom n p future cache ⊎ IsFull n p future cache)

-- a cache that isn't empty has a furthest page
some_furthest : (future cache : List ℕ) → 1 ≤ length cache → (v : ℕ) × (furthest future cache ≡ Some v)
unfolding furthest
some_furthest future [] h = absurd (omega arith)
some_furthest future (q ∷ qs) h = (_, refl)

pub chosen : (n p : ℕ) (future cache : List ℕ) → 1 ≤ n → Chosen n p future cache
unfolding choice
chosen n p future cache some = elim (cases_Bool (has p cache)) [
  | inl there ↦ inl (record { there = there; none = ap (λ (b : Bool). cond (b || nat_lt (length cache) n) None (furthest future cache)) there })
  | inr away ↦ inr (elim (cases_Bool (nat_lt (length cache) n)) [
    | inl room ↦ inl (record {
      away = away;
      room = ltb-true (length cache) n room;
      none =
          ap (λ (b : Bool). cond (b || nat_lt (length cache) n) None (furthest future cache)) away ∙
          ap (λ (b : Bool). cond b None (furthest future cache)) room;
    })
    | inr full ↦
        let least = ltb-false (length cache) n full in
        let found = some_furthest future cache (omega arith) in
        inr (record {
          away = away;
          full = least;
          victim = found.0;
          furthest = furthest_gives future cache found.0 found.1;
          some =
              ap (λ (b : Bool). cond (b || nat_lt (length cache) n) None (furthest future cache)) away ∙
              ap (λ (b : Bool). cond b None (furthest future cache)) full ∙ found.1;
        })
  ])
]

-- the cache after a reference
abbrev pub after : ℕ → ℕ → List ℕ → List ℕ → List ℕ
after n p future cache = cached p (has p cache) (choice n p future cache) cache

pub after_hit : (n p : ℕ) (future cache : List ℕ) → IsHit n p future cache → after n p future cache ≡ cache
unfolding cached
after_hit n p future cache h = ap (λ (b : Bool). cached p b (choice n p future cache) cache) h.there

pub after_room : (n p : ℕ) (future cache : List ℕ) → IsRoom n p future cache → after n p future cache ≡ p ∷ cache
unfolding cached
after_room n p future cache r =
    ap (λ (b : Bool). cached p b (choice n p future cache) cache) r.away ∙
    ap (λ (o : Option ℕ). cached p false o cache) r.none

pub after_full : (n p : ℕ) (future cache : List ℕ) → (f : IsFull n p future cache) → after n p future cache ≡ p ∷ without_first f.victim cache
unfolding cached
after_full n p future cache f =
    ap (λ (b : Bool). cached p b (choice n p future cache) cache) f.away ∙
    ap (λ (o : Option ℕ). cached p false o cache) f.some

-- later victims aren't due yet
pub due_later : (n at k : ℕ) (ps cache : List ℕ) → at < k → due at (victims_from n k ps cache) ≡ None
unfolding due victims_from listed
due_later n at k [] cache h = refl
due_later n at k (p ∷ ps) cache h =
    go (choice n p ps cache) (due_later n at (k + 1) ps (after n p ps cache) (omega arith))
  where
    go : (o : Option ℕ) → due at (victims_from n (k + 1) ps (after n p ps cache)) ≡ None → due at (listed k o ++ victims_from n (k + 1) ps (after n p ps cache)) ≡ None
    go None e = e
    go (Some v) e = ap (λ (b : Bool). cond b (Some v) None) (ne_eqb k at (λ same. omega arith))

due_listed : (at : ℕ) (o : Option ℕ) (vs : List Victim) → due at vs ≡ None → due at (listed at o ++ vs) ≡ o
unfolding due listed
due_listed at None vs e = e
due_listed at (Some v) vs e = ap (λ (b : Bool). cond b (Some v) None) (eq-eqb at at refl)

-- the faults after a reference
abbrev pub counted : Bool → ℕ → ℕ
counted true faults = faults
counted false faults = faults + 1

-- the run of Belady's victims after a reference
unfoldable pub next_run : ℕ → ℕ → ℕ → List ℕ → List ℕ → ℕ → Run
next_run n at p future cache faults = record {
  cache = after n p future cache;
  victims = victims_from n (at + 1) future (after n p future cache);
  faults = counted (has p cache) faults;
}

-- the run of Belady's victims from here on
unfoldable pub run_from : ℕ → ℕ → List ℕ → List ℕ → ℕ → Run
run_from n at ps cache faults = record { cache = cache; victims = victims_from n at ps cache; faults = faults }

chosen_served : (n at p : ℕ) (future cache : List ℕ) (vs : List Victim) (faults : ℕ) → IsCache n cache → Chosen n p future cache
    → served n p (has p cache) (choice n p future cache) (record { cache = cache; victims = listed at (choice n p future cache) ++ vs; faults = faults })
    ≡ Some (record { cache = after n p future cache; victims = vs; faults = counted (has p cache) faults })
unfolding served entered left then listed cached
chosen_served n at p future cache vs faults c (inl h) =
    ap (λ (b : Bool). served n p b (choice n p future cache) (record { cache = cache; victims = listed at (choice n p future cache) ++ vs; faults = faults })) h.there ∙
    ap (λ (o : Option ℕ). served n p true o (record { cache = cache; victims = listed at o ++ vs; faults = faults })) h.none ∙
    ap (λ (b : Bool). Some (record { cache = cached p b (choice n p future cache) cache; victims = vs; faults = counted b faults })) (sym h.there)
chosen_served n at p future cache vs faults c (inr (inl r)) =
    ap (λ (b : Bool). served n p b (choice n p future cache) (record { cache = cache; victims = listed at (choice n p future cache) ++ vs; faults = faults })) r.away ∙
    ap (λ (o : Option ℕ). served n p false o (record { cache = cache; victims = listed at o ++ vs; faults = faults })) r.none ∙
    ap (λ (b : Bool). cond b (Some (record { cache = p ∷ cache; victims = vs; faults = faults + 1 })) None) (lt-ltb (length cache) n r.room) ∙
    ap (λ (o : Option ℕ). Some (record { cache = cached p false o cache; victims = vs; faults = faults + 1 })) (sym r.none) ∙
    ap (λ (b : Bool). Some (record { cache = cached p b (choice n p future cache) cache; victims = vs; faults = counted b faults })) (sym r.away)
chosen_served n at p future cache vs faults c (inr (inr f)) =
    ap (λ (b : Bool). served n p b (choice n p future cache) (record { cache = cache; victims = listed at (choice n p future cache) ++ vs; faults = faults })) f.away ∙
    ap (λ (o : Option ℕ). served n p false o (record { cache = cache; victims = listed at o ++ vs; faults = faults })) f.some ∙
    ap (λ (b : Bool). then (entered n p) (cond b (Some (record { cache = without_first f.victim cache; victims = vs; faults = faults })) None)) f.furthest.there ∙
    ap (λ (b : Bool). cond b (Some (record { cache = p ∷ without_first f.victim cache; victims = vs; faults = faults + 1 })) None)
    (lt-ltb (length (without_first f.victim cache)) n (let l = length-without f.victim cache f.furthest.there in let s = c.small in omega arith)) ∙
    ap (λ (o : Option ℕ). Some (record { cache = cached p false o cache; victims = vs; faults = faults + 1 })) (sym f.some) ∙
    ap (λ (b : Bool). Some (record { cache = cached p b (choice n p future cache) cache; victims = vs; faults = counted b faults })) (sym f.away)

pub chosen_serves : (n at p : ℕ) (future cache : List ℕ) (faults : ℕ) → 1 ≤ n → IsCache n cache
    → serve n at p (run_from n at (p ∷ future) cache faults) ≡ Some (next_run n at p future cache faults)
unfolding serve victims_from run_from next_run
chosen_serves n at p future cache faults some c =
    let later = victims_from n (at + 1) future (after n p future cache) in
    ap (λ (o : Option ℕ). served n p (has p cache) o (record { cache = cache; victims = listed at (choice n p future cache) ++ later; faults = faults }))
    (due_listed at (choice n p future cache) later (due_later n at (at + 1) future (after n p future cache) (omega arith))) ∙
    chosen_served n at p future cache later faults c (chosen n p future cache some)

-- ---- what the reference does to the cache

pub after_is_cache : (n p : ℕ) (future cache : List ℕ) → 1 ≤ n → IsCache n cache → IsCache n (after n p future cache)
after_is_cache n p future cache some c = go (chosen n p future cache some)
  where
    go : Chosen n p future cache → IsCache n (after n p future cache)
    go (inl h) = subst (λ (qs : List ℕ). IsCache n qs) (sym (after_hit n p future cache h)) c
    go (inr (inl r)) = subst (λ (qs : List ℕ). IsCache n qs) (sym (after_room n p future cache r)) (record {
      once = λ q. times_enter p q cache (hasnt_times p cache r.away) c.once;
      small = let l = r.room in omega arith;
    })
    go (inr (inr f)) = subst (λ (qs : List ℕ). IsCache n qs) (sym (after_full n p future cache f)) (record {
      once = λ q. times_enter p q (without_first f.victim cache)
          (let t = tally-without (λ r. r == p) f.victim cache f.furthest.there in let z = hasnt_times p cache f.away in omega arith)
          (λ r. let t = tally-without (λ s. s == r) f.victim cache f.furthest.there in let o = c.once r in omega arith);
      small = let l = length-without f.victim cache f.furthest.there in let s = c.small in omega arith;
    })
