-- Which pages a ring has after the hands went on, and after room was made.
use Rattle.std.proofs.Common.{◌≡◌, ℕ, zero, suc, ◌<◌, ◌≤◌, Bool, true, false, cond, nat_lt, List, [], ◌∷◌, ◌++◌, length, drop, Option, refl, sym, ap, ◌∙◌, arith}
use Rattle.std.specs.Prelude.{◌==◌}
use Rattle.page_opt.specs.Plans.{has}
use Rattle.page_opt.specs.Cache.{tally, count_in}
use Rattle.page_opt.proofs.Counts.{times_hasnt, hasnt_times}
use Rattle.policy_faults.specs.Ring.{MarkedPage, ring_pages, is_in_memory, marked_page, unmarked_at, is_hand_marked, hand_passed, paged_in}
use Rattle.std.proofs.lemmas.Bool.{lt-ltb, le-ltb}
use Rattle.policy_faults.specs.Policies.{swept, clock_room, hands_moved, hands_room, fifo_room, fifo_after}
use Rattle.policy_faults.specs.Kept.{with_marks}
use Rattle.policy_faults.proofs.Rings.{tally-append}

-- ---- pages

pub pages_are : (marks : ℕ → Option Bool) (ps : List ℕ) → ring_pages (with_marks marks ps) ≡ ps
unfolding ring_pages with_marks
pages_are marks [] = refl
pages_are marks (p ∷ ps) = ap (λ (qs : List ℕ). p ∷ qs) (pages_are marks ps)

pub pages-append : (xs ys : List MarkedPage) → ring_pages (xs ++ ys) ≡ ring_pages xs ++ ring_pages ys
unfolding ring_pages
pages-append [] ys = refl
pages-append (x ∷ xs) ys = ap (λ (qs : List ℕ). x.page ∷ qs) (pages-append xs ys)

pub length-pages : (ms : List MarkedPage) → length (ring_pages ms) ≡ length ms
unfolding ring_pages
length-pages [] = refl
length-pages (m ∷ ms) = ap suc (length-pages ms)

pub pages-drop : (ms : List MarkedPage) → ring_pages (drop 1 ms) ≡ drop 1 (ring_pages ms)
unfolding ring_pages
pages-drop [] = refl
pages-drop (m ∷ ms) = refl

pub pages-paged_in : (page : ℕ) (ms : List MarkedPage) → ring_pages (paged_in page ms) ≡ ring_pages ms ++ page ∷ []
unfolding ring_pages
pages-paged_in page ms = pages-append ms (record { page = page; marked = true } ∷ [])

pub pages-marked : (page : ℕ) (ms : List MarkedPage) → ring_pages (marked_page page ms) ≡ ring_pages ms
unfolding ring_pages marked_page
pages-marked page [] = refl
pages-marked page (m ∷ ms) =
    ap (λ (qs : List ℕ). (cond (page == m.page) (record { page = m.page; marked = true }) m).page ∷ qs) (pages-marked page ms)
    ∙ ap (λ (p : ℕ). p ∷ ring_pages ms) (same (page == m.page))
  where
    same : (b : Bool) → (cond b (record { page = m.page; marked = true }) m).page ≡ m.page
    same true = refl
    same false = refl

pub pages-unmarked : (place : ℕ) (ms : List MarkedPage) → ring_pages (unmarked_at place ms) ≡ ring_pages ms
unfolding ring_pages unmarked_at
pages-unmarked zero [] = refl
pages-unmarked (suc k) [] = refl
pages-unmarked zero (m ∷ ms) = refl
pages-unmarked (suc k) (m ∷ ms) = ap (λ (qs : List ℕ). m.page ∷ qs) (pages-unmarked k ms)

-- ---- how many of the pages pass a test

pub tally-passed : (f : ℕ → Bool) (ms : List MarkedPage) → tally f (ring_pages (hand_passed ms)) ≡ tally f (ring_pages ms)
unfolding ring_pages hand_passed
tally-passed f [] = refl
tally-passed f (m ∷ ms) =
    let moved = ap (λ (qs : List ℕ). tally f qs) (pages-append ms (m ∷ [])) in
    let both = tally-append f (ring_pages ms) (m.page ∷ []) in
    omega arith

pub tally-drop : (f : ℕ → Bool) (qs : List ℕ) → tally f (drop 1 qs) ≤ tally f qs
tally-drop f [] = omega arith
tally-drop f (q ∷ qs) = omega arith

-- one move of a hand that takes a mark
tally-moved : (f : ℕ → Bool) (place : ℕ) (ms : List MarkedPage) → tally f (ring_pages (hand_passed (unmarked_at place ms))) ≡ tally f (ring_pages ms)
tally-moved f place ms = tally-passed f (unmarked_at place ms) ∙ ap (λ (qs : List ℕ). tally f qs) (pages-unmarked place ms)

pub tally-swept : (f : ℕ → Bool) (moves : ℕ) (ms : List MarkedPage) → tally f (ring_pages (swept moves ms)) ≡ tally f (ring_pages ms)
unfolding swept
tally-swept f zero ms = refl
tally-swept f (suc k) ms = go (is_hand_marked ms) (tally-swept f k (hand_passed (unmarked_at 0 ms)))
  where
    go : (b : Bool) → tally f (ring_pages (swept k (hand_passed (unmarked_at 0 ms)))) ≡ tally f (ring_pages (hand_passed (unmarked_at 0 ms)))
        → tally f (ring_pages (cond b (swept k (hand_passed (unmarked_at 0 ms))) ms)) ≡ tally f (ring_pages ms)
    go true further = further ∙ tally-moved f 0 ms
    go false further = refl

pub tally-hands : (f : ℕ → Bool) (ahead moves : ℕ) (ms : List MarkedPage) → tally f (ring_pages (hands_moved ahead moves ms)) ≡ tally f (ring_pages ms)
unfolding hands_moved
tally-hands f ahead zero ms = refl
tally-hands f ahead (suc k) ms = go (is_hand_marked (unmarked_at ahead ms)) (tally-hands f ahead k (hand_passed (unmarked_at ahead ms)))
  where
    go : (b : Bool) → tally f (ring_pages (hands_moved ahead k (hand_passed (unmarked_at ahead ms)))) ≡ tally f (ring_pages (hand_passed (unmarked_at ahead ms)))
        → tally f (ring_pages (cond b (hands_moved ahead k (hand_passed (unmarked_at ahead ms))) (unmarked_at ahead ms))) ≡ tally f (ring_pages ms)
    go true further = further ∙ tally-moved f ahead ms
    go false further = ap (λ (qs : List ℕ). tally f qs) (pages-unmarked ahead ms)

-- room that is made brings no page in
pub tally-fifo_room : (f : ℕ → Bool) (n : ℕ) (qs : List ℕ) → tally f (fifo_room n qs) ≤ tally f qs
tally-fifo_room f n qs = go (nat_lt (length qs) n)
  where
    go : (b : Bool) → tally f (cond b qs (drop 1 qs)) ≤ tally f qs
    go true = omega arith
    go false = tally-drop f qs

pub tally-clock_room : (f : ℕ → Bool) (n : ℕ) (ms : List MarkedPage) → tally f (ring_pages (clock_room n ms)) ≤ tally f (ring_pages ms)
tally-clock_room f n ms = go (nat_lt (length ms) n)
  where
    go : (b : Bool) → tally f (ring_pages (cond b ms (drop 1 (swept n ms)))) ≤ tally f (ring_pages ms)
    go true = omega arith
    go false =
        let less = tally-drop f (ring_pages (swept n ms)) in
        let dropped = ap (λ (qs : List ℕ). tally f qs) (pages-drop (swept n ms)) in
        let same = tally-swept f n ms in
        omega arith

pub tally-hands_room : (f : ℕ → Bool) (n ahead : ℕ) (ms : List MarkedPage) → tally f (ring_pages (hands_room n ahead ms)) ≤ tally f (ring_pages ms)
tally-hands_room f n ahead ms = go (nat_lt (length ms) n)
  where
    go : (b : Bool) → tally f (ring_pages (cond b ms (drop 1 (hands_moved ahead n ms)))) ≤ tally f (ring_pages ms)
    go true = omega arith
    go false =
        let less = tally-drop f (ring_pages (hands_moved ahead n ms)) in
        let dropped = ap (λ (qs : List ℕ). tally f qs) (pages-drop (hands_moved ahead n ms)) in
        let same = tally-hands f ahead n ms in
        omega arith

-- a page that isn't there isn't there when room was made
fewer_away : (page : ℕ) (old new : List ℕ) → has page old ≡ false → count_in page new ≤ count_in page old → has page new ≡ false
fewer_away page old new away fewer = times_hasnt page new (let none = hasnt_times page old away in omega arith)

pub fifo_away : (page n : ℕ) (qs : List ℕ) → has page qs ≡ false → has page (fifo_room n qs) ≡ false
fifo_away page n qs away = fewer_away page qs (fifo_room n qs) away (tally-fifo_room (λ (r : ℕ). r == page) n qs)

pub clock_away : (page n : ℕ) (ms : List MarkedPage) → is_in_memory page ms ≡ false → is_in_memory page (clock_room n ms) ≡ false
clock_away page n ms away = fewer_away page (ring_pages ms) (ring_pages (clock_room n ms)) away (tally-clock_room (λ (r : ℕ). r == page) n ms)

pub hands_away : (page n ahead : ℕ) (ms : List MarkedPage) → is_in_memory page ms ≡ false → is_in_memory page (hands_room n ahead ms) ≡ false
hands_away page n ahead ms away = fewer_away page (ring_pages ms) (ring_pages (hands_room n ahead ms)) away (tally-hands_room (λ (r : ℕ). r == page) n ahead ms)

-- ---- moves, one after another

pub swept_stops : (moves : ℕ) (ms : List MarkedPage) → is_hand_marked ms ≡ false → swept moves ms ≡ ms
unfolding swept
swept_stops zero ms clear = refl
swept_stops (suc k) ms clear = ap (λ (b : Bool). cond b (swept k (hand_passed (unmarked_at 0 ms))) ms) clear

pub swept_goes_on : (moves done : ℕ) (ms : List MarkedPage) → moves ≡ suc done → is_hand_marked ms ≡ true
    → swept moves ms ≡ swept done (hand_passed (unmarked_at 0 ms))
unfolding swept
swept_goes_on zero k ms e set = absurd (omega arith)
swept_goes_on (suc j) k ms e set =
    ap (λ (b : Bool). cond b (swept j (hand_passed (unmarked_at 0 ms))) ms) set ∙ ap (λ (i : ℕ). swept i (hand_passed (unmarked_at 0 ms))) (let less : j ≡ k = omega arith in less)

pub hands_stop : (ahead moves : ℕ) (ms : List MarkedPage) → 1 ≤ moves → is_hand_marked (unmarked_at ahead ms) ≡ false
    → hands_moved ahead moves ms ≡ unmarked_at ahead ms
unfolding hands_moved
hands_stop ahead zero ms some clear = absurd (omega arith)
hands_stop ahead (suc k) ms some clear = ap (λ (b : Bool). cond b (hands_moved ahead k (hand_passed (unmarked_at ahead ms))) (unmarked_at ahead ms)) clear

pub hands_go_on : (ahead moves done : ℕ) (ms : List MarkedPage) → moves ≡ suc done → is_hand_marked (unmarked_at ahead ms) ≡ true
    → hands_moved ahead moves ms ≡ hands_moved ahead done (hand_passed (unmarked_at ahead ms))
unfolding hands_moved
hands_go_on ahead zero k ms e set = absurd (omega arith)
hands_go_on ahead (suc j) k ms e set =
    ap (λ (b : Bool). cond b (hands_moved ahead j (hand_passed (unmarked_at ahead ms))) (unmarked_at ahead ms)) set
    ∙ ap (λ (i : ℕ). hands_moved ahead i (hand_passed (unmarked_at ahead ms))) (let less : j ≡ k = omega arith in less)

pub swept_none : (moves : ℕ) (ms : List MarkedPage) → moves ≡ 0 → swept moves ms ≡ ms
unfolding swept
swept_none zero ms e = refl
swept_none (suc k) ms e = absurd (omega arith)

pub hands_none : (ahead moves : ℕ) (ms : List MarkedPage) → moves ≡ 0 → hands_moved ahead moves ms ≡ ms
unfolding hands_moved
hands_none ahead zero ms e = refl
hands_none ahead (suc k) ms e = absurd (omega arith)

-- ---- the first page leaves a full queue

pub fifo_full : (n size : ℕ) (old new : List MarkedPage) → size ≡ length old → n ≤ size → new ≡ drop 1 old → ring_pages new ≡ fifo_room n (ring_pages old)
fifo_full n size old new is full left =
    ap (λ (ms : List MarkedPage). ring_pages ms) left ∙ pages-drop old
    ∙ sym (ap (λ (b : Bool). cond b (ring_pages old) (drop 1 (ring_pages old))) (le-ltb (length (ring_pages old)) n (let same = length-pages old in omega arith)))

pub fifo_free : (n size : ℕ) (old : List MarkedPage) → size ≡ length old → size < n → ring_pages old ≡ fifo_room n (ring_pages old)
fifo_free n size old is free =
    sym (ap (λ (b : Bool). cond b (ring_pages old) (drop 1 (ring_pages old))) (lt-ltb (length (ring_pages old)) n (let same = length-pages old in omega arith)))

-- and another page comes
pub fifo_came : (page n : ℕ) (old room new : List MarkedPage) → has page (ring_pages old) ≡ false → ring_pages room ≡ fifo_room n (ring_pages old)
    → new ≡ paged_in page room
    → ring_pages new ≡ fifo_after n page (ring_pages old)
unfolding fifo_after
fifo_came page n old room new away made came =
    ap (λ (ms : List MarkedPage). ring_pages ms) came ∙ pages-paged_in page room ∙ ap (λ (qs : List ℕ). qs ++ page ∷ []) made
    ∙ sym (ap (λ (b : Bool). cond b (ring_pages old) (fifo_room n (ring_pages old) ++ page ∷ [])) away)
