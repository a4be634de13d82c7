-- A ring by its pages and their marks, and what a change of one mark or one page makes of it.
use Rattle.std.proofs.Common.{◌≡◌, ℕ, zero, suc, ◌+◌, ◌<◌, ◌≤◌, Bool, true, false, cond, List, [], ◌∷◌, ◌++◌, length, drop, get_or, Option, Some, None, refl, sym, ap, ◌∙◌, arith, inl, inr}
use Rattle.std.specs.Prelude.{◌==◌, ◌||◌, is_some, unwrap_or}
use Rattle.std.proofs.lemmas.Bool.{cases_eq, eq-eqb, ne_eqb, false≢true, cond-false, or_left, or_right}
use Rattle.page_opt.specs.Plans.{has}
use Rattle.page_opt.specs.Cache.{bit, tally, count_in}
use Rattle.page_opt.proofs.Counts.{times_hasnt, hasnt_times}
use Rattle.policy_faults.specs.Ring.{MarkedPage, marked_page, unmarked_at, hand_passed, paged_in}
use Rattle.policy_faults.specs.Kept.{with_marks, HaveMarks}

-- one page's mark became this
abbrev pub Marks : (ℕ → Option Bool) → (ℕ → Option Bool) → ℕ → Option Bool → Type 0
Marks old new page o = (q : ℕ) → new q ≡ cond (page == q) o (old q)

-- ---- counts and membership

pub tally-append : (f : ℕ → Bool) (xs ys : List ℕ) → tally f (xs ++ ys) ≡ tally f xs + tally f ys
tally-append f [] ys = omega arith
tally-append f (x ∷ xs) ys = let rest = tally-append f xs ys in omega arith

pub times_here : (p : ℕ) (ps : List ℕ) → count_in p (p ∷ ps) ≡ 1 + count_in p ps
times_here p ps = let one = ap bit (eq-eqb p p refl) in omega arith

pub has_push : (q p : ℕ) (ps : List ℕ) → has q (ps ++ p ∷ []) ≡ ((p == q) || has q ps)
unfolding has
has_push q p [] = refl
has_push q p (r ∷ ps) = ap (λ (b : Bool). (r == q) || b) (has_push q p ps) ∙ swap (r == q) (p == q) (has q ps)
  where
    swap : (a b c : Bool) → (a || (b || c)) ≡ (b || (a || c))
    swap true true c = refl
    swap true false c = refl
    swap false b c = refl

pub has_at : (ps : List ℕ) (k : ℕ) → k < length ps → has (get_or ps k 0) ps ≡ true
unfolding has
has_at [] k h = absurd (omega arith)
has_at (p ∷ ps) zero h = or_left (p == p) (has p ps) (eq-eqb p p refl)
has_at (p ∷ ps) (suc k) h = or_right (p == get_or ps k 0) (has (get_or ps k 0) ps) (has_at ps k (omega arith))

-- the page at the front stands nowhere else
pub first_away : (p : ℕ) (ps : List ℕ) → count_in p (p ∷ ps) ≤ 1 → has p ps ≡ false
first_away p ps once = times_hasnt p ps (let here = times_here p ps in omega arith)

-- ---- the ring by its marks

at : ℕ → Option Bool → MarkedPage
at page mark = record { page = page; marked = unwrap_or mark false }

pub marks_same : (old new : ℕ → Option Bool) (ps : List ℕ) → ((q : ℕ) → has q ps ≡ true → new q ≡ old q) → with_marks new ps ≡ with_marks old ps
unfolding with_marks has at
marks_same old new [] h = refl
marks_same old new (p ∷ ps) h =
    ap (λ (o : Option Bool). at p o ∷ with_marks new ps) (h p (or_left (p == p) (has p ps) (eq-eqb p p refl)))
    ∙ ap (λ (ms : List MarkedPage). at p (old p) ∷ ms) (marks_same old new ps (λ q there. h q (or_right (p == q) (has q ps) there)))

-- the mark of a page that isn't there says nothing
pub others_same : (old new : ℕ → Option Bool) (page : ℕ) (o : Option Bool) (ps : List ℕ) → Marks old new page o → has page ps ≡ false
    → with_marks new ps ≡ with_marks old ps
others_same old new page o ps m away =
    marks_same old new ps
    (λ q there. m q ∙ cond-false (page == q) o (old q) (ne_eqb page q (λ e. false≢true (sym away ∙ ap (λ (r : ℕ). has r ps) e ∙ there))))

pub with_marks-append : (marks : ℕ → Option Bool) (xs ys : List ℕ) → with_marks marks (xs ++ ys) ≡ with_marks marks xs ++ with_marks marks ys
unfolding with_marks
with_marks-append marks [] ys = refl
with_marks-append marks (x ∷ xs) ys =
    ap (λ (ms : List MarkedPage). record { page = x; marked = unwrap_or (marks x) false } ∷ ms) (with_marks-append marks xs ys)

pub length-with_marks : (marks : ℕ → Option Bool) (ps : List ℕ) → length (with_marks marks ps) ≡ length ps
unfolding with_marks
length-with_marks marks [] = refl
length-with_marks marks (p ∷ ps) = ap suc (length-with_marks marks ps)

-- ---- what each call makes of it

pub ring_marked : (old new : ℕ → Option Bool) (page : ℕ) (ps : List ℕ) → Marks old new page (Some true)
    → with_marks new ps ≡ marked_page page (with_marks old ps)
unfolding with_marks marked_page at
ring_marked old new page [] m = refl
ring_marked old new page (p ∷ ps) m =
    ap (λ (o : Option Bool). at p o ∷ with_marks new ps) (m p)
    ∙ ap (λ (ms : List MarkedPage). at p (cond (page == p) (Some true) (old p)) ∷ ms) (ring_marked old new page ps m)
    ∙ head (page == p) (marked_page page (with_marks old ps))
  where
    head : (b : Bool) (ms : List MarkedPage) → at p (cond b (Some true) (old p)) ∷ ms ≡ cond b (record { page = p; marked = true }) (at p (old p)) ∷ ms
    head true ms = refl
    head false ms = refl

pub ring_unmarked : (old new : ℕ → Option Bool) (ps : List ℕ) (place : ℕ) → place < length ps → ((q : ℕ) → count_in q ps ≤ 1)
    → Marks old new (get_or ps place 0) (Some false) → with_marks new ps ≡ unmarked_at place (with_marks old ps)
unfolding with_marks unmarked_at at
ring_unmarked old new [] place h once m = absurd (omega arith)
ring_unmarked old new (p ∷ ps) zero h once m =
    ap (λ (o : Option Bool). at p o ∷ with_marks new ps) (m p ∙ ap (λ (b : Bool). cond b (Some false) (old p)) (eq-eqb p p refl))
    ∙ ap (λ (ms : List MarkedPage). at p (Some false) ∷ ms) (others_same old new p (Some false) ps m (first_away p ps (once p)))
ring_unmarked old new (p ∷ ps) (suc k) h once m =
    ap (λ (o : Option Bool). at p o ∷ with_marks new ps) (m p ∙ cond-false (get_or ps k 0 == p) (Some false) (old p) (ne_eqb (get_or ps k 0) p other))
    ∙ ap (λ (ms : List MarkedPage). at p (old p) ∷ ms) (ring_unmarked old new ps k (omega arith) (λ q. let o = once q in omega arith) m)
  where
    other : get_or ps k 0 ≡ p → ⊥
    other same = false≢true (sym (first_away p ps (once p)) ∙ ap (λ (r : ℕ). has r ps) (sym same) ∙ has_at ps k (omega arith))

pub unmarked_past : (place : ℕ) (ms : List MarkedPage) → length ms ≤ place → unmarked_at place ms ≡ ms
unfolding unmarked_at
unmarked_past zero [] h = refl
unmarked_past (suc k) [] h = refl
unmarked_past zero (m ∷ ms) h = absurd (omega arith)
unmarked_past (suc k) (m ∷ ms) h = ap (λ (rest : List MarkedPage). m ∷ rest) (unmarked_past k ms (omega arith))

pub ring_passed : (marks : ℕ → Option Bool) (p : ℕ) (ps : List ℕ) → with_marks marks (ps ++ p ∷ []) ≡ hand_passed (with_marks marks (p ∷ ps))
unfolding with_marks hand_passed
ring_passed marks p ps = with_marks-append marks ps (p ∷ [])

pub ring_left : (old new : ℕ → Option Bool) (p : ℕ) (ps : List ℕ) → Marks old new p None → count_in p (p ∷ ps) ≤ 1
    → with_marks new ps ≡ drop 1 (with_marks old (p ∷ ps))
unfolding with_marks
ring_left old new p ps m once = others_same old new p None ps m (first_away p ps once)

pub ring_paged_in : (old new : ℕ → Option Bool) (page : ℕ) (ps : List ℕ) → Marks old new page (Some true) → has page ps ≡ false
    → with_marks new (ps ++ page ∷ []) ≡ paged_in page (with_marks old ps)
unfolding with_marks at
ring_paged_in old new page ps m away =
    with_marks-append new ps (page ∷ [])
    ∙ ap (λ (ms : List MarkedPage). ms ++ with_marks new (page ∷ [])) (others_same old new page (Some true) ps m away)
    ∙ ap (λ (o : Option Bool). with_marks old ps ++ at page o ∷ []) (m page ∙ ap (λ (b : Bool). cond b (Some true) (old page)) (eq-eqb page page refl))

-- ---- and each page stands once, with a mark, set or not

pub marked_kept : (old new : ℕ → Option Bool) (page : ℕ) (b : Bool) (ps : List ℕ) → HaveMarks old ps → has page ps ≡ true
    → Marks old new page (Some b) → HaveMarks new ps
marked_kept old new page b ps k there m = record {
  once = k.once;
  inside = λ q. elim (cases_eq page q) [
    | inl same ↦ ap (λ (o : Option Bool). is_some o) (m q ∙ ap (λ (t : Bool). cond t (Some b) (old q)) (eq-eqb page q same)) ∙ sym there ∙ ap (λ (r : ℕ). has r ps) same
    | inr other ↦ ap (λ (o : Option Bool). is_some o) (m q ∙ cond-false (page == q) (Some b) (old q) (ne_eqb page q other)) ∙ k.inside q
  ];
}

pub passed_kept : (marks : ℕ → Option Bool) (p : ℕ) (ps : List ℕ) → HaveMarks marks (p ∷ ps) → HaveMarks marks (ps ++ p ∷ [])
unfolding has
passed_kept marks p ps k = record {
  once = λ q. (let o = k.once q in let moved = tally-append (λ (r : ℕ). r == q) ps (p ∷ []) in omega arith);
  inside = λ q. k.inside q ∙ sym (has_push q p ps);
}

pub left_kept : (old new : ℕ → Option Bool) (p : ℕ) (ps : List ℕ) → HaveMarks old (p ∷ ps) → Marks old new p None → HaveMarks new ps
unfolding has
left_kept old new p ps k m = record {
  once = λ q. (let o = k.once q in omega arith);
  inside = λ q. elim (cases_eq p q) [
    | inl same ↦ ap (λ (o : Option Bool). is_some o) (m q ∙ ap (λ (t : Bool). cond t None (old q)) (eq-eqb p q same)) ∙ sym (first_away p ps (k.once p)) ∙ ap (λ (r : ℕ). has r ps) same
    | inr other ↦ ap (λ (o : Option Bool). is_some o) (m q ∙ cond-false (p == q) None (old q) (ne_eqb p q other)) ∙ k.inside q ∙ ap (λ (t : Bool). t || has q ps) (ne_eqb p q other)
  ];
}

pub paged_in_kept : (old new : ℕ → Option Bool) (page : ℕ) (ps : List ℕ) → HaveMarks old ps → has page ps ≡ false → Marks old new page (Some true)
    → HaveMarks new (ps ++ page ∷ [])
paged_in_kept old new page ps k away m = record {
  once = λ q. elim (cases_eq page q) [
    | inl same ↦ (
        let none = hasnt_times page ps away in
        let same_count : count_in q ps ≡ count_in page ps = ap (λ (r : ℕ). count_in r ps) (sym same) in
        let here = ap bit (eq-eqb page q same) in
        let pushed = tally-append (λ (r : ℕ). r == q) ps (page ∷ []) in
        omega arith)
    | inr other ↦ (
        let o = k.once q in
        let there = ap bit (ne_eqb page q other) in
        let pushed = tally-append (λ (r : ℕ). r == q) ps (page ∷ []) in
        omega arith)
  ];
  inside = λ q. elim (cases_eq page q) [
    | inl same ↦
        ap (λ (o : Option Bool). is_some o) (m q ∙ ap (λ (t : Bool). cond t (Some true) (old q)) (eq-eqb page q same))
        ∙ sym (has_push q page ps ∙ ap (λ (t : Bool). t || has q ps) (eq-eqb page q same))
    | inr other ↦
        ap (λ (o : Option Bool). is_some o) (m q ∙ cond-false (page == q) (Some true) (old q) (ne_eqb page q other)) ∙ k.inside q
        ∙ sym (has_push q page ps ∙ ap (λ (t : Bool). t || has q ps) (ne_eqb page q other))
  ];
}
