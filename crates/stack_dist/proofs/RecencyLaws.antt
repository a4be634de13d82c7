-- The marked references of a history, in order, are the stack of pages.
use Rattle.std.proofs.Common.{◌≡◌, ℕ, zero, suc, ◌+◌, ◌-◌, ◌<◌, ◌≤◌, Bool, true, false, cond, eqb, ltb, List, [], ◌∷◌, ◌++◌, length, get_or, set, take, replicate, Option, Some, None, refl, sym, ap, ◌∙◌, subst, arith, inl, inr}
use Rattle.std.specs.Prelude.{if◌then◌else◌}
use Rattle.std.specs.Option.{option_map}
use Rattle.std.proofs.lemmas.Bool.{cases_Bool, cases_lt, cond-true, cond-false, eqb-false, lt-ltb, le-ltb}
use Rattle.std.proofs.lemmas.List.{get_or-set_other, get_or_default, get_or_append_left, get_or-append_right, length-set, take_all}
use Rattle.vm_facts.specs.Lists.{without_first}
use Rattle.stack_dist.specs.Tree.{total}
use Rattle.stack_dist.specs.Recency.{after, moved_by, AreLastPlaces, stack, place_in, marks, unmarked, marks_before, gaps, gapped, filled_before, padded, hits_within, counted}
use Rattle.stack_dist.proofs.LruLaws.{place_here, place_later, place_below, page_at, suc_of, ltb_suc, hit_counted, depths_counted, total-take-set, total-take-more, get-le-total, hits_within-le, after_more}
use Rattle.stack_dist.proofs.TreeLaws.{choose}

-- ---- a page as often as its mark says

copies : ℕ → ℕ → List ℕ → List ℕ
copies zero page pages = pages
copies (suc m) page pages = page ∷ copies m page pages

kept : List ℕ → List ℕ → List ℕ
kept [] ms = []
kept (page ∷ history) [] = []
kept (page ∷ history) (m ∷ ms) = copies m page (kept history ms)

without_here : (page q : ℕ) (pages : List ℕ) → eqb q page ≡ true → without_first page (q ∷ pages) ≡ pages
unfolding without_first
without_here page q pages e = cond-true (eqb q page) pages (q ∷ without_first page pages) e

without_later : (page q : ℕ) (pages : List ℕ) → eqb q page ≡ false → without_first page (q ∷ pages) ≡ q ∷ without_first page pages
unfolding without_first
without_later page q pages e = cond-false (eqb q page) pages (q ∷ without_first page pages) e

without-copies : (m page q : ℕ) (pages : List ℕ) → eqb q page ≡ false → without_first page (copies m q pages) ≡ copies m q (without_first page pages)
unfolding copies
without-copies zero page q pages e = refl
without-copies (suc m) page q pages e =
    without_later page q (copies m q pages) e ∙ ap (λ (t : List ℕ). q ∷ t) (without-copies m page q pages e)

later : (m : ℕ) (o : Option ℕ) → option_map suc (option_map (λ k. m + k) o) ≡ option_map (λ k. suc m + k) o
later m None = refl
later m (Some k) = let e : suc (m + k) ≡ suc m + k = omega arith in ap (λ (n : ℕ). Some n) e

none_later : (o : Option ℕ) → o ≡ option_map (λ k. 0 + k) o
none_later None = refl
none_later (Some k) = let e : k ≡ 0 + k = omega arith in ap (λ (n : ℕ). Some n) e

place-copies : (m page q : ℕ) (pages : List ℕ) → eqb q page ≡ false → place_in page (copies m q pages) ≡ option_map (λ k. m + k) (place_in page pages)
unfolding copies
place-copies zero page q pages e = none_later (place_in page pages)
place-copies (suc m) page q pages e =
    place_later page q (copies m q pages) e ∙
    ap (λ (o : Option ℕ). option_map suc o) (place-copies m page q pages e) ∙
    later m (place_in page pages)

unmarked-cons : (o : Option ℕ) (m : ℕ) (ms : List ℕ) → unmarked (option_map suc o) (m ∷ ms) ≡ m ∷ unmarked o ms
unmarked-cons None m ms = refl
unmarked-cons (Some k) m ms = refl

zero_is : (k : ℕ) → Some 0 ≡ Some k → 0 ≡ k
zero_is k e = cc

-- without_first its mark a page is off the stack
kept-unmarked : (page : ℕ) (history ms : List ℕ) → ((k : ℕ) → place_in page history ≡ Some k → get_or ms k 0 ≡ 1)
    → kept history (unmarked (place_in page history) ms) ≡ without_first page (kept history ms)
unfolding kept without_first copies
kept-unmarked page [] ms one = refl
kept-unmarked page (q ∷ history) [] one = none (place_in page (q ∷ history))
  where
    none : (o : Option ℕ) → kept (q ∷ history) (unmarked o []) ≡ []
    none None = refl
    none (Some k) = refl
kept-unmarked page (q ∷ history) (m ∷ ms) one = elim (cases_Bool (eqb q page)) [
  | inl same ↦
      let o = place_here page q history same in
      let marked : m ≡ 1 = one 0 o in
      ap (λ (p : Option ℕ). kept (q ∷ history) (unmarked p (m ∷ ms))) o ∙ taken same marked
  | inr other ↦
      let o = place_later page q history other in
      ap (λ (p : Option ℕ). kept (q ∷ history) (unmarked p (m ∷ ms))) o ∙
      ap (λ (t : List ℕ). kept (q ∷ history) t) (unmarked-cons (place_in page history) m ms) ∙
      ap (λ (t : List ℕ). copies m q t) (kept-unmarked page history ms (λ k e. one (suc k) (o ∙ ap (λ (p : Option ℕ). option_map suc p) e))) ∙
      sym (without-copies m page q (kept history ms) other)
]
  where
    taken : eqb q page ≡ true → m ≡ 1 → copies 0 q (kept history ms) ≡ without_first page (copies m q (kept history ms))
    taken same marked =
        sym (without_here page q (kept history ms) same) ∙ ap (λ (n : ℕ). without_first page (copies n q (kept history ms))) (sym marked)

-- the depth of a page is how many marks stand before its own
place-kept : (page : ℕ) (history ms : List ℕ) (k : ℕ) → place_in page history ≡ Some k → get_or ms k 0 ≡ 1
    → place_in page (kept history ms) ≡ Some (total (take k ms))
unfolding kept total place_in copies
place-kept page [] ms k e one = cc
place-kept page (q ∷ history) [] k e one = absurd (omega arith)
place-kept page (q ∷ history) (m ∷ ms) k e one = elim (cases_Bool (eqb q page)) [
  | inl same ↦ first (zero_is k (sym (place_here page q history same) ∙ e)) same one
  | inr other ↦
      let j = suc_of (place_in page history) k (sym (place_later page q history other) ∙ e) in
      further other j.0 j.2 (place-kept page history ms j.0 j.1 (subst (λ (i : ℕ). get_or (m ∷ ms) i 0 ≡ 1) j.2 one))
]
  where
    first : 0 ≡ k → eqb q page ≡ true → get_or (m ∷ ms) k 0 ≡ 1 → place_in page (copies m q (kept history ms)) ≡ Some (total (take k (m ∷ ms)))
    first z same one =
        let marked : m ≡ 1 = subst (λ (i : ℕ). get_or (m ∷ ms) i 0 ≡ 1) (sym z) one in
        subst (λ (i : ℕ). place_in page (copies m q (kept history ms)) ≡ Some (total (take i (m ∷ ms)))) z
        (ap (λ (i : ℕ). place_in page (copies i q (kept history ms))) marked ∙ place_here page q (kept history ms) same)

    further : eqb q page ≡ false → (j : ℕ) → k ≡ suc j → place_in page (kept history ms) ≡ Some (total (take j ms))
        → place_in page (copies m q (kept history ms)) ≡ Some (total (take k (m ∷ ms)))
    further other j s at =
        place-copies m page q (kept history ms) other ∙
        ap (λ (o : Option ℕ). option_map (λ i. m + i) o) at ∙
        ap (λ (i : ℕ). Some (total (take i (m ∷ ms)))) (sym s)

place_none-kept : (page : ℕ) (history ms : List ℕ) → place_in page history ≡ None → place_in page (kept history ms) ≡ None
unfolding kept place_in
place_none-kept page [] ms e = refl
place_none-kept page (q ∷ history) [] e = refl
place_none-kept page (q ∷ history) (m ∷ ms) e = elim (cases_Bool (eqb q page)) [
  | inl same ↦ absurd (some_none (sym (place_here page q history same) ∙ e))
  | inr other ↦
      place-copies m page q (kept history ms) other ∙
      ap (λ (o : Option ℕ). option_map (λ i. m + i) o)
      (place_none-kept page history ms (none_of (place_in page history) (sym (place_later page q history other) ∙ e)))
]
  where
    some_none : {n : ℕ} → Some n ≡ None → ⊥
    some_none e = cc

    none_of : (o : Option ℕ) → option_map suc o ≡ None → o ≡ None
    none_of None e = refl
    none_of (Some j) e = cc

-- ---- the marks of a history

two_pages : (page q : ℕ) (history : List ℕ) (k : ℕ) → place_in page history ≡ Some k → place_in q history ≡ Some k → page ≡ q
two_pages page q history k e f =
    let b = place_below page history k e in
    sym (page_at page history k e) ∙ get_or_default history k page q b ∙ page_at q history k f

-- the latest reference to each page is marked
marked_at : (history : List ℕ) (q k : ℕ) → place_in q history ≡ Some k → get_or (marks history) k 0 ≡ 1
unfolding marks place_in
marked_at [] q k e = cc
marked_at (page ∷ history) q k e = elim (cases_Bool (eqb page q)) [
  | inl same ↦
      subst (λ (i : ℕ). get_or (1 ∷ unmarked (place_in page history) (marks history)) i 0 ≡ 1) (zero_is k (sym (place_here q page history same) ∙ e)) refl
  | inr other ↦
      let j = suc_of (place_in q history) k (sym (place_later q page history other) ∙ e) in
      subst (λ (i : ℕ). get_or (1 ∷ unmarked (place_in page history) (marks history)) i 0 ≡ 1) (sym j.2)
      (stays (place_in page history) refl other j.0 j.1 (marked_at history q j.0 j.1))
]
  where
    stays : (o : Option ℕ) → place_in page history ≡ o → eqb page q ≡ false → (j : ℕ) → place_in q history ≡ Some j → get_or (marks history) j 0 ≡ 1
        → get_or (unmarked o (marks history)) j 0 ≡ 1
    stays None e other j at one = one
    stays (Some i) e other j at one =
        get_or-set_other (marks history) i j 0 0
        (λ same. eqb-false page q other (two_pages page q history i e (at ∙ ap (λ (n : ℕ). Some n) same))) ∙
        one

kept-marks : (history : List ℕ) → kept history (marks history) ≡ stack history
unfolding kept marks stack copies
kept-marks [] = refl
kept-marks (page ∷ history) =
    ap (λ (t : List ℕ). page ∷ t)
    (kept-unmarked page history (marks history) (λ k e. marked_at history page k e) ∙
    ap (λ (t : List ℕ). without_first page t) (kept-marks history))

-- the depth of a page on the stack, by the marks
pub depth_by_marks : (page : ℕ) (history : List ℕ) → marks_before (place_in page history) (marks history) ≡ place_in page (stack history)
depth_by_marks page history = at (place_in page history) refl ∙ ap (λ (t : List ℕ). place_in page t) (kept-marks history)
  where
    at : (o : Option ℕ) → place_in page history ≡ o → marks_before o (marks history) ≡ place_in page (kept history (marks history))
    at None e = sym (place_none-kept page history (marks history) e)
    at (Some k) e = sym (place-kept page history (marks history) k e (marked_at history page k e))

pub length-marks : (history : List ℕ) → length (marks history) ≡ length history
unfolding marks
length-marks [] = refl
length-marks (page ∷ history) = ap suc (same (place_in page history) ∙ length-marks history)
  where
    same : (o : Option ℕ) → length (unmarked o (marks history)) ≡ length (marks history)
    same None = refl
    same (Some k) = length-set (marks history) k 0

-- ---- the gaps of a history

pub length-gapped : (o : Option ℕ) (xs : List ℕ) → length (gapped o xs) ≡ length xs
length-gapped None xs = refl
length-gapped (Some k) xs = length-set xs k (get_or xs k 0 + 1)

length-gaps : (history : List ℕ) → length (gaps history) ≡ length history
unfolding gaps
length-gaps [] = refl
length-gaps (page ∷ history) = ap suc (length-gapped (place_in page history) (gaps history) ∙ length-gaps history)

total-take-unset : (n : ℕ) (xs : List ℕ) (at : ℕ) → at < length xs → get_or xs at 0 ≡ 1
    → total (take n xs) ≡ (if ltb at n then 1 else 0) + total (take n (set xs at 0))
unfolding total
total-take-unset n [] at lt one = absurd (omega arith)
total-take-unset zero (x ∷ xs) at lt one = let e = choose (ltb at 0) false 1 0 (le-ltb at 0 (omega arith)) in omega arith
total-take-unset (suc n) (x ∷ xs) zero lt one = let e = choose (ltb 0 (suc n)) true 1 0 (lt-ltb 0 (suc n) (omega arith)) in omega arith
total-take-unset (suc n) (x ∷ xs) (suc at) lt one =
    let h = total-take-unset n xs at (omega arith) one in
    let e = choose (ltb (suc at) (suc n)) (ltb at n) 1 0 (ltb_suc at n) in
    omega arith

-- each place is marked or a gap
marks_and_gaps : (history : List ℕ) (k : ℕ) → k ≤ length history → total (take k (gaps history)) + total (take k (marks history)) ≡ k
unfolding gaps marks total
marks_and_gaps [] zero le = refl
marks_and_gaps [] (suc k) le = absurd (omega arith)
marks_and_gaps (page ∷ history) zero le = refl
marks_and_gaps (page ∷ history) (suc k) le =
    let so_far = marks_and_gaps history k (omega arith) in let now = moved (place_in page history) refl in omega arith
  where
    moved : (o : Option ℕ) → place_in page history ≡ o
        → total (take k (gapped o (gaps history))) + total (take k (unmarked o (marks history))) ≡ total (take k (gaps history)) + total (take k (marks history))
    moved None e = refl
    moved (Some i) e =
        let below = place_below page history i e in
        let len = length-gaps history in
        let marked = length-marks history in
        let more = total-take-set k (gaps history) i (omega arith) in
        let less = total-take-unset k (marks history) i (omega arith) (marked_at history page i e) in
        omega arith

total-gaps : (history : List ℕ) → total (gaps history) ≤ length history
total-gaps history =
    let both = marks_and_gaps history (length history) (omega arith) in
    let len = length-gaps history in
    let all = ap total (take_all (length history) (gaps history) (omega arith)) in
    omega arith

-- ---- after zeros

pub total-padded : (n : ℕ) (xs : List ℕ) → total (padded n xs) ≡ total xs
unfolding total padded
total-padded zero xs = refl
total-padded (suc n) xs = let h = total-padded n xs in omega arith

pub length-padded : (n : ℕ) (xs : List ℕ) → length (padded n xs) ≡ n + length xs
unfolding padded
length-padded zero xs = omega arith
length-padded (suc n) xs = let h = length-padded n xs in omega arith

pub replicate-padded : (n : ℕ) → replicate n 0 ≡ padded n []
unfolding padded
replicate-padded zero = refl
replicate-padded (suc n) = ap (λ (t : List ℕ). 0 ∷ t) (replicate-padded n)

total-take-padded : (n : ℕ) (xs : List ℕ) (k m : ℕ) → m ≡ n + k → total (take m (padded n xs)) ≡ total (take k xs)
unfolding padded total
total-take-padded zero xs k m e = let same : m ≡ k = omega arith in ap (λ (i : ℕ). total (take i xs)) same
total-take-padded (suc n) xs k zero e = absurd (omega arith)
total-take-padded (suc n) xs k (suc m) e = let h = total-take-padded n xs k m (omega arith) in omega arith

set-padded : (n : ℕ) (xs : List ℕ) (k m v : ℕ) → m ≡ n + k → set (padded n xs) m v ≡ padded n (set xs k v)
unfolding padded
set-padded zero xs k m v e = let same : m ≡ k = omega arith in ap (λ (i : ℕ). set xs i v) same
set-padded (suc n) xs k zero v e = absurd (omega arith)
set-padded (suc n) xs k (suc m) v e = ap (λ (t : List ℕ). 0 ∷ t) (set-padded n xs k m v (omega arith))

padded_next : (n : ℕ) (xs : List ℕ) → padded (suc n) xs ≡ padded n (0 ∷ xs)
unfolding padded
padded_next zero xs = refl
padded_next (suc n) xs = ap (λ (t : List ℕ). 0 ∷ t) (padded_next n xs)

get_or-padded : (n : ℕ) (xs : List ℕ) (k m : ℕ) → m ≡ n + k → get_or (padded n xs) m 0 ≡ get_or xs k 0
unfolding padded
get_or-padded zero xs k m e = let same : m ≡ k = omega arith in ap (λ (i : ℕ). get_or xs i 0) same
get_or-padded (suc n) xs k zero e = absurd (omega arith)
get_or-padded (suc n) xs k (suc m) e = get_or-padded n xs k m (omega arith)

-- ---- one more reference

-- what the pass over the references keeps: the places below `place` are free
pub record Follows (history : List ℕ) (last : ℕ → Option ℕ) (place : ℕ) (tree hits : List ℕ) : Type 0 where
  pub places : (q : ℕ) → last q ≡ moved_by place (place_in q history)
  pub gaps_are : tree ≡ padded place (gaps history)
  pub depths : length hits ≡ length (stack history)
  pub counts : (n : ℕ) → total (take n hits) ≡ hits_within n history

pub starts : (size : ℕ) (last : ℕ → Option ℕ) (tree hits : List ℕ) → ((q : ℕ) → last q ≡ None) → tree ≡ replicate size 0 → hits ≡ []
    → Follows (after [] []) last size tree hits
unfolding place_in gaps stack hits_within total after
starts size last tree hits none zeros empty = record {
  places = none;
  gaps_are = zeros ∙ replicate-padded size;
  depths = ap (λ (xs : List ℕ). length xs) empty;
  counts = λ n. ap (λ (xs : List ℕ). total (take n xs)) empty ∙ nothing n;
}
  where
    nothing : (n : ℕ) → total (take n []) ≡ 0
    nothing zero = refl
    nothing (suc n) = refl

moved_on : (place : ℕ) (o : Option ℕ) → moved_by (suc place) o ≡ moved_by place (option_map suc o)
moved_on place None = refl
moved_on place (Some k) = let e : suc place + k ≡ place + suc k = omega arith in ap (λ (t : ℕ). Some t) e

place_before : (n : ℕ) (o : Option ℕ) (at : ℕ) → moved_by n o ≡ Some at → (k : ℕ) × (o ≡ Some k) × (at ≡ n + k)
place_before n None at e = cc
place_before n (Some k) at e = (k, refl, cc)

-- the depth of the page is on the stack
pub depth_found : (history : List ℕ) (last : ℕ → Option ℕ) (place page : ℕ) (tree hits : List ℕ) → Follows history last place tree hits
    → filled_before place (last page) tree ≡ place_in page (stack history)
depth_found history last place page tree hits f =
    ap (λ (o : Option ℕ). filled_before place o tree) (f.places page) ∙
    ap (λ (t : List ℕ). filled_before place (moved_by place (place_in page history)) t) f.gaps_are ∙
    filled (place_in page history) refl ∙
    depth_by_marks page history
  where
    filled : (o : Option ℕ) → place_in page history ≡ o → filled_before place (moved_by place o) (padded place (gaps history)) ≡ marks_before o (marks history)
    filled None e = refl
    filled (Some k) e =
        let below = place_below page history k e in
        let both = marks_and_gaps history k (omega arith) in
        let same = total-take-padded place (gaps history) k (place + k) refl in
        let depth : place + k - place - total (take (place + k) (padded place (gaps history))) ≡ total (take k (marks history)) = omega arith in
        ap (λ (t : ℕ). Some t) depth

-- the place of the page's last reference is there, and a gap can be left at it
pub record Ready (latest references at : ℕ) (tree : List ℕ) : Type 0 where
  pub within : at < length tree
  pub order : latest + total (take at tree) ≤ at
  pub none : get_or tree at 0 ≡ 0

pub ready : (history : List ℕ) (last : ℕ → Option ℕ) (place page at : ℕ) (tree hits : List ℕ) → Follows history last place tree hits → last page ≡ Some at
    → Ready place (length history) at tree
ready history last place page at tree hits f e =
    let k = place_before place (place_in page history) at (sym (f.places page) ∙ e) in
    let below = place_below page history k.0 k.1 in
    let far = k.2 in
    let len = ap (λ (t : List ℕ). length t) f.gaps_are ∙ length-padded place (gaps history) in
    let gaps_len = length-gaps history in
    let sums = ap (λ (t : List ℕ). total (take at t)) f.gaps_are ∙ total-take-padded place (gaps history) k.0 at k.2 in
    let both = marks_and_gaps history k.0 (omega arith) in
    let next = marks_and_gaps history (suc k.0) (omega arith) in
    let one_gap = total-take-more (gaps history) k.0 in
    let one_mark = total-take-more (marks history) k.0 in
    let marked = marked_at history page k.0 k.1 in
    let here = ap (λ (t : List ℕ). get_or t at 0) f.gaps_are ∙ get_or-padded place (gaps history) k.0 at k.2 in
    record { within = omega arith; order = omega arith; none = omega arith }

pub few_gaps : (history : List ℕ) (last : ℕ → Option ℕ) (place : ℕ) (tree hits : List ℕ) → Follows history last place tree hits
    → (length tree ≡ place + length history) × (total tree ≤ length history)
few_gaps history last place tree hits f =
    let len = ap (λ (t : List ℕ). length t) f.gaps_are ∙ length-padded place (gaps history) in
    let gaps_len = length-gaps history in
    let sums = ap (λ (t : List ℕ). total t) f.gaps_are ∙ total-padded place (gaps history) in
    let few = total-gaps history in
    (omega arith, omega arith)

-- the depth is one that is counted, and its count is small
pub depth_counts : (history : List ℕ) (last : ℕ → Option ℕ) (place page depth : ℕ) (tree hits : List ℕ) (before : Option ℕ)
    → Follows history last place tree hits → before ≡ last page → filled_before place before tree ≡ Some depth
    → (depth < length hits) × (get_or hits depth 0 ≤ length history)
depth_counts history last place page depth tree hits before f was is =
    let at =
    sym (depth_found history last place page tree hits f) ∙ sym (ap (λ (o : Option ℕ). filled_before place o tree) was) ∙ is
    in
    let below = place_below page (stack history) depth at in
    let room = f.depths in
    let le = get-le-total hits depth in
    let so_far = f.counts (suc depth) in
    let all = hits_within-le (suc depth) history in
    (omega arith, omega arith)

gapped-padded : (n : ℕ) (o : Option ℕ) (xs : List ℕ) → gapped (moved_by n o) (padded n xs) ≡ padded n (gapped o xs)
gapped-padded n None xs = refl
gapped-padded n (Some k) xs =
    ap (λ (v : ℕ). set (padded n xs) (n + k) (v + 1)) (get_or-padded n xs k (n + k) refl) ∙ set-padded n xs k (n + k) (get_or xs k 0 + 1) refl

found : (n : ℕ) (b : Bool) (o : Option ℕ) → cond b (Some n) (moved_by (suc n) o) ≡ moved_by n (cond b (Some 0) (option_map suc o))
found n true o = let e : n ≡ n + 0 = omega arith in ap (λ (t : ℕ). Some t) e
found n false o = moved_on n o

follows_more : (history : List ℕ) (last last' : ℕ → Option ℕ) (place n page : ℕ) (tree hits : List ℕ) → Follows history last place tree hits → place ≡ suc n
    → ((q : ℕ) → last' q ≡ cond (eqb page q) (Some n) (last q))
    → Follows (page ∷ history) last' n (gapped (last page) tree) (counted hits (filled_before place (last page) tree))
unfolding place_in gaps stack
follows_more history last last' place n page tree hits f is put = record {
  places = λ q.
      put q ∙
      ap (λ (o : Option ℕ). cond (eqb page q) (Some n) o) (f.places q ∙ ap (λ (m : ℕ). moved_by m (place_in q history)) is) ∙
      found n (eqb page q) (place_in q history);
  gaps_are =
      ap (λ (o : Option ℕ). gapped o tree) (f.places page) ∙
      ap (λ (t : List ℕ). gapped (moved_by place (place_in page history)) t) f.gaps_are ∙
      gapped-padded place (place_in page history) (gaps history) ∙
      ap (λ (m : ℕ). padded m (gapped (place_in page history) (gaps history))) is ∙
      padded_next n (gapped (place_in page history) (gaps history));
  depths =
      ap (λ (o : Option ℕ). length (counted hits o)) (depth_found history last place page tree hits f) ∙
      depths_counted page (stack history) hits f.depths;
  counts = λ m.
      ap (λ (o : Option ℕ). total (take m (counted hits o))) (depth_found history last place page tree hits f) ∙
      hit_counted m page history hits f.depths (f.counts m);
}

-- where the last reference to a page is, by the history
abbrev pub last_of : ℕ → List ℕ → ℕ → Option ℕ
last_of place history q = moved_by place (place_in q history)

pub last_is : (refs : List ℕ) (end i place : ℕ) (last items : List (Option ℕ)) → items ≡ last → AreLastPlaces refs end (length refs) last → i < length refs
    → place + i ≡ end → get_or items i None ≡ last_of place (after (take i refs) []) (get_or refs i 0)
last_is refs end i place last items same are lt at =
    let here : end - i ≡ place = omega arith in
    ap (λ (xs : List (Option ℕ)). get_or xs i None) same ∙ are i lt ∙
    ap (λ (m : ℕ). moved_by m (place_in (get_or refs i 0) (after (take i refs) []))) here

-- the places of last references, one reference later
pub places_next : (refs : List ℕ) (i place q : ℕ) → i < length refs → 0 < place
    → moved_by (place - 1) (place_in q (after (take (i + 1) refs) []))
    ≡ cond (eqb (get_or refs i 0) q) (Some (place - 1)) (moved_by place (place_in q (after (take i refs) [])))
unfolding place_in
places_next refs i place q lt some =
    let is : suc (place - 1) ≡ place = omega arith in
    ap (λ (h : List ℕ). moved_by (place - 1) (place_in q h)) (after_more refs i 0 lt) ∙
    sym (found (place - 1) (eqb (get_or refs i 0) q) (place_in q (after (take i refs) []))) ∙
    ap (λ (m : ℕ). cond (eqb (get_or refs i 0) q) (Some (place - 1)) (moved_by m (place_in q (after (take i refs) [])))) is

pub last_place_more : (refs : List ℕ) (end i : ℕ) (last : List (Option ℕ)) (o : Option ℕ) (place : ℕ) → length last ≡ i → place + i ≡ end
    → AreLastPlaces refs end i last → o ≡ moved_by place (place_in (get_or refs i 0) (after (take i refs) [])) → AreLastPlaces refs end (i + 1) (last ++ o ∷ [])
last_place_more refs end i last o place len at so_far is k lt = elim (cases_lt k i) [
  | inl before ↦ get_or_append_left last (o ∷ []) None k (omega arith) ∙ so_far k before
  | inr now ↦
      let same : k ≡ i = omega arith in
      let here : i - i ≡ 0 = omega arith in
      let place_is : place ≡ end - i = omega arith in
      ap (λ (j : ℕ). get_or (last ++ o ∷ []) j None) same ∙ get_or-append_right last (o ∷ []) i i None len (omega arith) ∙
      ap (λ (j : ℕ). get_or (o ∷ []) j None) here ∙ is ∙
      ap (λ (m : ℕ). moved_by m (place_in (get_or refs i 0) (after (take i refs) []))) place_is ∙
      ap (λ (j : ℕ). moved_by (end - j) (place_in (get_or refs j 0) (after (take j refs) []))) (sym same)
]

-- a step of the pass, by what each call says
pub follows_step : (refs : List ℕ) (i : ℕ) (last last' : ℕ → Option ℕ) (place : ℕ) (tree tree' hits hits' : List ℕ) (before depth : Option ℕ)
    → i < length refs → Follows (after (take i refs) []) last place tree hits → 0 < place → before ≡ last (get_or refs i 0)
    → depth ≡ filled_before place before tree → tree' ≡ gapped before tree → hits' ≡ counted hits depth
    → ((q : ℕ) → last' q ≡ cond (eqb (get_or refs i 0) q) (Some (place - 1)) (last q))
    → Follows (after (take (i + 1) refs) []) last' (place - 1) tree' hits'
follows_step refs i last last' place tree tree' hits hits' before depth lt f some was d t h put =
    let page = get_or refs i 0 in
    let stepped = follows_more (after (take i refs) []) last last' place (place - 1) page tree hits f (omega arith) put in
    let tree_is = t ∙ ap (λ (o : Option ℕ). gapped o tree) was in
    let hits_are = h ∙ ap (λ (o : Option ℕ). counted hits o) (d ∙ ap (λ (o : Option ℕ). filled_before place o tree) was) in
    subst (λ (past : List ℕ). Follows past last' (place - 1) tree' hits') (sym (after_more refs i 0 lt))
    (subst (λ (xs : List ℕ). Follows (page ∷ after (take i refs) []) last' (place - 1) xs hits') (sym tree_is)
    (subst (λ (xs : List ℕ). Follows (page ∷ after (take i refs) []) last' (place - 1) (gapped (last page) tree) xs) (sym hits_are)
    stepped))

pub all_followed : (refs : List ℕ) (i : ℕ) (last : ℕ → Option ℕ) (place : ℕ) (tree hits : List ℕ) → length refs ≤ i
    → Follows (after (take i refs) []) last place tree hits → Follows (after refs []) last place tree hits
all_followed refs i last place tree hits le f =
    subst (λ (xs : List ℕ). Follows (after xs []) last place tree hits) (take_all i refs le) f
