-- Each page's first reference is a fault.
use Rattle.std.proofs.Common.{◌≡◌, inl, inr, ℕ, ◌+◌, ◌≤◌, true, false, List, [], ◌∷◌, length, Option, Some, None, refl, sym, ap, ◌∙◌, arith}
use Rattle.std.specs.Prelude.{◌==◌}
use Rattle.std.proofs.lemmas.Bool.{cases_eq, cases_Bool, false≢true, eq-eqb, or_cases, or_left, eqb-true}
use Rattle.vm_facts.specs.Lists.{without_first}
use Rattle.page_opt.specs.declared.Victim.{Victim}
use Rattle.page_opt.specs.Plans.{Run, has, then, serve, runs, all_left, faults_of, plan_faults}
use Rattle.page_opt.specs.Cache.{bit, count_in}
use Rattle.page_opt.proofs.Counts.{count, times_hasnt, tally-without, length-without}
use Rattle.page_opt.proofs.Served.{Step, serve_gives, runs_none}
use Rattle.fault_laws.specs.Memory.{NoneFewer}
use Rattle.fault_laws.proofs.Lacking.{tally_less, without_other}

-- These pages are still to be referenced for the first time: each stands once, among the references, and the cache has none.
record Awaited (pages refs cache : List ℕ) : Type 0 where
  once : (p : ℕ) → count_in p pages ≤ 1
  ahead : (p : ℕ) → has p pages ≡ true → has p refs ≡ true
  away : count pages cache ≡ 0

-- One reference.

-- the cache has a page as often as it has pages of a list with it, at most
one_counts : (p : ℕ) (pages cache : List ℕ) → has p pages ≡ true → count_in p cache ≤ count pages cache
one_counts p pages cache there = tally_less (λ q. q == p) (λ q. has q pages) cache (λ q k e. ap (λ (r : ℕ). has r pages) (eqb-true q p e) ∙ there)

without_has : (p q : ℕ) (pages : List ℕ) → has p pages ≡ true → has q (without_first p pages) ≡ true → has q pages ≡ true
without_has p q pages there h = elim (cases_eq q p) [
  | inl same ↦ ap (λ (r : ℕ). has r pages) same ∙ there
  | inr other ↦ sym (without_other p q pages other) ∙ h
]

-- a page that isn't awaited
other_ahead : (p : ℕ) (pages refs : List ℕ) → has p pages ≡ false → ((q : ℕ) → has q pages ≡ true → has q (p ∷ refs) ≡ true) → (q : ℕ)
    → has q pages ≡ true → has q refs ≡ true
unfolding has
other_ahead p pages refs away ahead q h = elim (or_cases (p == q) (has q refs) (ahead q h)) [
  | inl e ↦ absurd (false≢true (sym away ∙ ap (λ (r : ℕ). has r pages) (eqb-true p q e) ∙ h))
  | inr e ↦ e
]

-- a page that is awaited stands once
gone : (p : ℕ) (pages : List ℕ) → ((q : ℕ) → count_in q pages ≤ 1) → has p pages ≡ true → has p (without_first p pages) ≡ false
gone p pages once there =
    let t = tally-without (λ q. q == p) p pages there in
    let one = ap bit (eq-eqb p p refl) in
    let o = once p in
    times_hasnt p (without_first p pages) (omega arith)

-- it comes, by a fault, and the others are awaited still
first_awaited : (n p : ℕ) (pages refs : List ℕ) (c d : Run) → Awaited pages (p ∷ refs) c.cache → has p pages ≡ true → Step n p c d
    → Awaited (without_first p pages) refs d.cache × (d.faults ≡ c.faults + 1)
first_awaited n p pages refs c d a there (inl hit) =
    absurd (let k = one_counts p pages c.cache there in let z = a.away in let h = hit.there in omega arith)
first_awaited n p pages refs c d a there (inr miss) = (
  record {
    once = λ q. let t = tally-without (λ r. r == q) p pages there in let o = a.once q in omega arith;
    ahead = other_ahead p (without_first p pages) refs left (λ q h. a.ahead q (without_has p q pages there h));
    away =
        let fewer = tally_less (λ q. has q (without_first p pages)) (λ q. has q pages) c.cache (λ q k h. without_has p q pages there h) in
        let kept = miss.kept (without_first p pages) in
        let none = ap bit left in
        let z = a.away in
        omega arith;
  },
  miss.faults,
)
  where
    left : has p (without_first p pages) ≡ false
    left = gone p pages a.once there

-- another page comes, or is there
other_awaited : (n p : ℕ) (pages refs : List ℕ) (c d : Run) → Awaited pages (p ∷ refs) c.cache → has p pages ≡ false → Step n p c d
    → Awaited pages refs d.cache × (c.faults ≤ d.faults)
other_awaited n p pages refs c d a not_there (inl hit) = (
  record { once = a.once; ahead = other_ahead p pages refs not_there a.ahead; away = ap (count pages) hit.cache ∙ a.away },
  let k = hit.faults in omega arith,
)
other_awaited n p pages refs c d a not_there (inr miss) = (
  record {
    once = a.once;
    ahead = other_ahead p pages refs not_there a.ahead;
    away = let kept = miss.kept pages in let none = ap bit not_there in let z = a.away in omega arith;
  },
  let k = miss.faults in omega arith,
)

-- All references.

none_ahead : (pages cache : List ℕ) → Awaited pages [] cache → length pages ≡ 0
unfolding has
none_ahead [] cache a = refl
none_ahead (p ∷ ps) cache a = absurd (false≢true (a.ahead p (or_left (p == p) (has p ps) (eq-eqb p p refl))))

awaited_fault : (refs : List ℕ) (n at : ℕ) (pages : List ℕ) (c d : Run) → Awaited pages refs c.cache → runs n at refs (Some c) ≡ Some d
    → length pages + c.faults ≤ d.faults
unfolding runs then
awaited_fault [] n at pages c d a r =
    let same : c ≡ d = cc in
    let none = none_ahead pages c.cache a in
    let k = ap (λ (x : Run). x.faults) same in
    omega arith
awaited_fault (p ∷ refs) n at pages c d a r = go (serve n at p c) refl r (λ qs m b s. awaited_fault refs n (at + 1) qs m d b s)
  where
    go : (o : Option Run) → serve n at p c ≡ o → runs n (at + 1) refs o ≡ Some d
        → ((qs : List ℕ) (m : Run) → Awaited qs refs m.cache → runs n (at + 1) refs (Some m) ≡ Some d → length qs + m.faults ≤ d.faults)
        → length pages + c.faults ≤ d.faults
    go None e s rest = let stays = runs_none n (at + 1) refs in cc
    go (Some m) e s rest = elim (cases_Bool (has p pages)) [
      | inl there ↦
          let k = first_awaited n p pages refs c m a there (serve_gives n at p c m e) in
          let l = rest (without_first p pages) m k.0 s in
          let one = k.1 in
          let shorter = length-without p pages there in
          omega arith
      | inr not_there ↦
          let k = other_awaited n p pages refs c m a not_there (serve_gives n at p c m e) in
          let l = rest pages m k.0 s in
          let more = k.1 in
          omega arith
    ]

left_faults : (victims : List Victim) (m faults : ℕ) → all_left victims m ≡ Some faults → m ≡ faults
unfolding all_left
left_faults [] m faults e = cc
left_faults (v ∷ vs) m faults e = cc

pub pages_fault : (refs pages : List ℕ) (n : ℕ) → ((p : ℕ) → count_in p pages ≤ 1) → ((p : ℕ) → has p pages ≡ true → has p refs ≡ true)
    → NoneFewer refs n (length pages)
unfolding plan_faults faults_of
pages_fault refs pages n once ahead victims faults e = go (runs n 1 refs (Some (record { cache = []; victims = victims; faults = 0 }))) refl e
  where
    go : (o : Option Run) → runs n 1 refs (Some (record { cache = []; victims = victims; faults = 0 })) ≡ o → faults_of o ≡ Some faults → length pages ≤ faults
    go None r h = cc
    go (Some d) r h =
        let l = awaited_fault refs n 1 pages (record { cache = []; victims = victims; faults = 0 }) d (record { once = once; ahead = ahead; away = refl }) r in
        let k = left_faults d.victims d.faults faults h in
        omega arith
