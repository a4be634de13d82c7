-- Each policy steps so.
use Rattle.std.proofs.Common.{◌≡◌, ℕ, zero, suc, ◌+◌, ◌≤◌, Bool, true, false, cond, nat_lt, List, [], ◌∷◌, ◌++◌, length, take, drop, refl, sym, ap, subst, arith, inl, inr, length-append}
use Rattle.std.specs.Prelude.{◌==◌, ◌||◌, if◌then◌else◌}
use Rattle.std.proofs.lemmas.Bool.{cases_Bool, cases_lt, lt-ltb, le-ltb}
use Rattle.std.proofs.lemmas.List.{length-take, length-drop}
use Rattle.vm_facts.specs.Lists.{without_first}
use Rattle.page_opt.specs.Plans.{has}
use Rattle.page_opt.specs.Cache.{bit, tally, count_in, IsCache}
use Rattle.page_opt.proofs.Counts.{hasnt_times, tally-without}
use Rattle.page_opt.proofs.Least.{empty_cache}
use Rattle.stack_dist.specs.Lru.{holds, referenced, faults_from, lru_faults}
use Rattle.policy_faults.specs.Ring.{MarkedPage, ring_pages, is_in_memory, marked_page, paged_in}
use Rattle.policy_faults.specs.Policies.{faults_over, fifo_room, fifo_after, fifo_faults, ring_after, swept, clock_room, clock_faults, hands_moved, hands_room, hands_faults}
use Rattle.policy_faults.proofs.Rings.{tally-append}
use Rattle.policy_faults.proofs.Turning.{length-pages, pages-paged_in, pages-marked, tally-swept, tally-hands, tally-fifo_room, tally-clock_room, tally-hands_room}
use Rattle.fault_laws.proofs.Stepping.{Stepped, stays, comes}
use Rattle.fault_laws.proofs.Demanding.{IsDemand, at_least}
use Rattle.fault_laws.specs.Policies.{IsAboveLeast}

-- ---- a page that comes last

pushed_times : (p : ℕ) (room : List ℕ) (q : ℕ) → count_in q (room ++ p ∷ []) ≡ count_in q room + bit (p == q)
pushed_times p room q = let both = tally-append (λ (r : ℕ). r == q) room (p ∷ []) in omega arith

pushed : (n p : ℕ) (before room : List ℕ) → has p before ≡ false → IsCache n before → ((q : ℕ) → count_in q room ≤ count_in q before) → length room + 1 ≤ n
    → Stepped n p before (room ++ p ∷ []) false
pushed n p before room away cache fewer fits =
    comes n p before room (room ++ p ∷ []) false away cache fewer (let none = hasnt_times p before away in let less = fewer p in omega arith) fits (pushed_times p room) (length-append room (p ∷ []))

-- room was made for one more
has_room : {X : Type 0} (n : ℕ) (old made : List X) → 1 ≤ n → length old ≤ n → length made ≡ length old
    → length (cond (nat_lt (length old) n) old (drop 1 made)) + 1 ≤ n
has_room n old made some small same = elim (cases_lt (length old) n) [
  | inl less ↦ let e = ap (λ (b : Bool). length (cond b old (drop 1 made))) (lt-ltb (length old) n less) in omega arith
  | inr full ↦ let e = ap (λ (b : Bool). length (cond b old (drop 1 made))) (le-ltb (length old) n full) in let d = length-drop 1 made in omega arith
]

-- ---- first in, first out

pub fifo_demand : (n : ℕ) → 1 ≤ n → IsDemand n (λ (pages : List ℕ). pages) has (fifo_after n)
unfolding fifo_after
fifo_demand n some pages p cache = by (has p pages) refl
  where
    by : (hit : Bool) → has p pages ≡ hit → Stepped n p pages (cond hit pages (fifo_room n pages ++ p ∷ [])) hit
    by true there = stays n p pages pages refl cache there
    by false away = pushed n p pages (fifo_room n pages) away cache (λ q. tally-fifo_room (λ (r : ℕ). r == q) n pages) (has_room n pages pages some cache.small refl)

-- ---- rings

ring_demand : (n : ℕ) (make_room : List MarkedPage → List MarkedPage) → ((f : ℕ → Bool) (ms : List MarkedPage)
    → tally f (ring_pages (make_room ms)) ≤ tally f (ring_pages ms))
    → ((ms : List MarkedPage) → length ms ≤ n → length (make_room ms) + 1 ≤ n) → IsDemand n ring_pages is_in_memory (ring_after make_room)
unfolding ring_after
ring_demand n make_room fewer fits ms p cache = by (is_in_memory p ms) refl
  where
    by : (hit : Bool) → is_in_memory p ms ≡ hit → Stepped n p (ring_pages ms) (ring_pages (cond hit (marked_page p ms) (paged_in p (make_room ms)))) hit
    by true there = stays n p (ring_pages ms) (ring_pages (marked_page p ms)) (pages-marked p ms) cache there
    by false away =
        let size = length-pages ms in
        let small = cache.small in
        let room = fits ms (omega arith) in
        let left = length-pages (make_room ms) in
        subst (λ (ps : List ℕ). Stepped n p (ring_pages ms) ps false) (sym (pages-paged_in p (make_room ms)))
        (pushed n p (ring_pages ms) (ring_pages (make_room ms)) away cache (λ q. fewer (λ (r : ℕ). r == q) ms) (omega arith))

-- a ring has as many pages after the hands went on
same_length : (ms turned : List MarkedPage) → ((f : ℕ → Bool) → tally f (ring_pages turned) ≡ tally f (ring_pages ms)) → length turned ≡ length ms
same_length ms turned same =
    let a = all (ring_pages ms) in
    let b = all (ring_pages turned) in
    let c = same (λ q. true) in
    let d = length-pages ms in
    let e = length-pages turned in
    omega arith
  where
    all : (qs : List ℕ) → tally (λ q. true) qs ≡ length qs
    all [] = refl
    all (q ∷ qs) = let rest = all qs in omega arith

pub clock_demand : (n : ℕ) → 1 ≤ n → IsDemand n ring_pages is_in_memory (ring_after (clock_room n))
clock_demand n some = ring_demand n (clock_room n) (λ f ms. tally-clock_room f n ms) (λ ms small. has_room n ms (swept n ms) some small (same_length ms (swept n ms) (λ f. tally-swept f n ms)))

pub hands_demand : (n ahead : ℕ) → 1 ≤ n → IsDemand n ring_pages is_in_memory (ring_after (hands_room n ahead))
hands_demand n ahead some = ring_demand n (hands_room n ahead) (λ f ms. tally-hands_room f n ahead ms)
    (λ ms small. has_room n ms (hands_moved ahead n ms) some small (same_length ms (hands_moved ahead n ms) (λ f. tally-hands f ahead n ms)))

-- ---- least recently used

tally-take : (f : ℕ → Bool) (m : ℕ) (qs : List ℕ) → tally f (take m qs) ≤ tally f qs
tally-take f zero qs = omega arith
tally-take f (suc m) [] = omega arith
tally-take f (suc m) (q ∷ qs) = let rest = tally-take f m qs in omega arith

without_same : (p : ℕ) (qs : List ℕ) → has p qs ≡ false → without_first p qs ≡ qs
unfolding has without_first
without_same p [] away = refl
without_same p (q ∷ qs) away = by (q == p) (has p qs) refl away (without_same p qs)
  where
    by : (b c : Bool) → has p qs ≡ c → (b || c) ≡ false → (has p qs ≡ false → without_first p qs ≡ qs) → cond b qs (q ∷ without_first p qs) ≡ q ∷ qs
    by true c e h rest = cc
    by false true e h rest = cc
    by false false e h rest = ap (λ (rs : List ℕ). q ∷ rs) (rest e)

-- what passes of the pages without one of them
tally-other : (f : ℕ → Bool) (p : ℕ) (qs : List ℕ) → tally f (without_first p qs) ≤ tally f qs
tally-other f p qs = elim (cases_Bool (has p qs)) [
  | inl there ↦ let t = tally-without f p qs there in omega arith
  | inr away ↦ let e = ap (λ (rs : List ℕ). tally f rs) (without_same p qs away) in omega arith
]

gone : (p : ℕ) (qs : List ℕ) → count_in p qs ≤ 1 → count_in p (without_first p qs) ≡ 0
gone p qs once = elim (cases_Bool (has p qs)) [
  | inl there ↦ let t = tally-without (λ (r : ℕ). r == p) p qs there in let one = ap bit (self p) in omega arith
  | inr away ↦ let e = ap (λ (rs : List ℕ). count_in p rs) (without_same p qs away) in let none = hasnt_times p qs away in omega arith
]
  where
    self : (k : ℕ) → (k == k) ≡ true
    self k = grind arith

pub lru_demand : (n : ℕ) → 1 ≤ n → IsDemand n (λ (pages : List ℕ). pages) has (λ p pages. referenced n pages p)
lru_demand zero some = absurd (omega arith)
lru_demand (suc m) some = λ pages p cache.
    comes (suc m) p pages (take m (without_first p pages)) (p ∷ take m (without_first p pages)) (has p pages) refl cache
    (λ q. (let t = tally-take (λ (r : ℕ). r == q) m (without_first p pages) in let w = tally-other (λ (r : ℕ). r == q) p pages in omega arith))
    (let t = tally-take (λ (r : ℕ). r == p) m (without_first p pages) in let g = gone p pages (cache.once p) in omega arith)
    (let l = length-take m (without_first p pages) in omega arith)
    (λ q. omega arith) (omega arith)

same_test : (q : ℕ) (qs : List ℕ) → has q qs ≡ holds qs q
unfolding has holds
same_test q [] = refl
same_test q (r ∷ qs) = ap (λ (b : Bool). (r == q) || b) (same_test q qs)

-- its faults, counted so
lru_over : (n : ℕ) (pages refs : List ℕ) → faults_over has (λ p qs. referenced n qs p) pages refs ≡ faults_from n pages refs
unfolding faults_over faults_from
lru_over n pages [] = refl
lru_over n pages (p ∷ refs) =
    let count : Bool → ℕ = λ b. if b then 0 else 1 in
    let here : count (has p pages) ≡ count (holds pages p) = ap count (same_test p pages) in
    let rest = lru_over n (referenced n pages p) refs in
    omega arith

-- ---- all of them

pub fifo_least : IsAboveLeast fifo_faults
fifo_least refs n least some fewer = at_least n (λ (pages : List ℕ). pages) has (fifo_after n) (fifo_demand n some) [] refs least refl (empty_cache n) fewer

pub clock_least : IsAboveLeast clock_faults
unfolding ring_pages
clock_least refs n least some fewer = at_least n ring_pages is_in_memory (ring_after (clock_room n)) (clock_demand n some) [] refs least refl (empty_cache n) fewer

pub hands_least : (ahead : ℕ → ℕ) → IsAboveLeast (λ refs n. hands_faults refs n (ahead n))
unfolding ring_pages
hands_least ahead refs n least some fewer =
    at_least n ring_pages is_in_memory (ring_after (hands_room n (ahead n))) (hands_demand n (ahead n) some) [] refs least refl (empty_cache n) fewer

pub lru_least : IsAboveLeast lru_faults
lru_least refs n least some fewer =
    let all = at_least n (λ (pages : List ℕ). pages) has (λ p qs. referenced n qs p) (lru_demand n some) [] refs least refl (empty_cache n) fewer in
    let same = lru_over n [] refs in
    omega arith
