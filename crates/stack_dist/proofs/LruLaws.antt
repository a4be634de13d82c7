-- LRU with room for n pages holds the top n of the stack; so its faults and the hits at depths below n make up the references.
use Rattle.std.proofs.Common.{◌≡◌, ℕ, zero, suc, ◌+◌, ◌-◌, ◌<◌, ◌≤◌, Bool, true, false, ◌||◌, eqb, ltb, List, [], ◌∷◌, ◌++◌, length, get_or, set, take, Option, Some, None, refl, sym, ap, ◌∙◌, subst, add-one, arith, inl, inr}
use Rattle.std.specs.Prelude.{if◌then◌else◌}
use Rattle.std.specs.Option.{option_map}
use Rattle.std.proofs.lemmas.Bool.{cases_Bool, cases_lt, cases_eq, lt-ltb, le-ltb, cond-true, cond-false, eqb-true}
use Rattle.std.proofs.lemmas.List.{take-take, take_more, length-take-le, take_all, length_push, length-set, get_or-set_same, get_or-set_other}
use Rattle.stack_dist.specs.Lru.{holds, faults_from, lru_faults, distinct_pages}
use Rattle.vm_facts.specs.Lists.{without_first}
use Rattle.stack_dist.specs.Tree.{total}
use Rattle.stack_dist.proofs.TreeLaws.{total-take-le, choose}
use Rattle.stack_dist.specs.Recency.{after, stack, place_in, hits_within, counted}

-- ---- the list of at most n pages is the top of the stack

take_without : (page : ℕ) (pages : List ℕ) (m : ℕ) → take m (without_first page (take (suc m) pages)) ≡ take m (without_first page pages)
unfolding without_first
take_without page [] m = refl
take_without page (q ∷ pages) zero = refl
take_without page (q ∷ pages) (suc m) =
    elim (eqb q page) as (λ b. take (suc m) ((if b then (take (suc m) pages) else (q ∷ without_first page (take (suc m) pages))))
    ≡ take (suc m) ((if b then pages else (q ∷ without_first page pages)))) [
      | true ↦ take-take (suc m) (suc m) pages (omega arith)
      | false ↦ ap (λ (t : List ℕ). q ∷ t) (take_without page pages m)
    ]

top_of_stack : (n page : ℕ) (pages : List ℕ) → take n (page ∷ without_first page (take n pages)) ≡ take n (page ∷ without_first page pages)
top_of_stack zero page pages = refl
top_of_stack (suc m) page pages = ap (λ (t : List ℕ). page ∷ t) (take_without page pages m)

-- ---- hits and faults make up the references

hit_or_fault : (b : Bool) → (if b then 0 else 1) + (if b then 1 else 0) ≡ 1
hit_or_fault true = refl
hit_or_fault false = refl

faults_and_hits : (n : ℕ) (refs history : List ℕ)
    → faults_from n (take n (stack history)) refs + hits_within n (after refs history) ≡ length refs + hits_within n history
unfolding faults_from hits_within stack after
faults_and_hits n [] history = refl
faults_and_hits n (page ∷ refs) history =
    let top = ap (λ (s : List ℕ). faults_from n s refs) (top_of_stack n page (stack history)) in
    let rest = faults_and_hits n refs (page ∷ history) in
    let one = hit_or_fault (holds (take n (stack history)) page) in
    omega arith

none : List ℕ
none = []

take-nil : (n : ℕ) → take n none ≡ none
unfolding none
take-nil zero = refl
take-nil (suc n) = refl

pub lru_and_hits : (n : ℕ) (refs : List ℕ) → lru_faults refs n + hits_within n (after refs []) ≡ length refs
unfolding hits_within stack none
lru_and_hits n refs =
    let start = ap (λ (s : List ℕ). faults_from n s refs) (take-nil n) in
    let whole = faults_and_hits n refs [] in
    omega arith

pub after_push : (refs : List ℕ) (page : ℕ) (history : List ℕ) → after (refs ++ page ∷ []) history ≡ page ∷ after refs history
unfolding after
after_push [] page history = refl
after_push (q ∷ refs) page history = after_push refs page (q ∷ history)

pub after_more : (refs : List ℕ) (i d : ℕ) → i < length refs → after (take (i + 1) refs) [] ≡ get_or refs i d ∷ after (take i refs) []
after_more refs i d lt = ap (λ (t : List ℕ). after t []) (take_more refs i d lt) ∙ after_push (take i refs) (get_or refs i d) []

pub length-after : (refs history : List ℕ) → length (after refs history) ≡ length refs + length history
unfolding after
length-after [] history = omega arith
length-after (page ∷ refs) history = let h = length-after refs (page ∷ history) in omega arith

pub length-seen : (refs : List ℕ) (i : ℕ) → i ≤ length refs → length (after (take i refs) []) ≡ i
length-seen refs i le =
    let all = length-after (take i refs) [] in let front = length-take-le i refs le in omega arith

-- ---- how deep the stack is

or_swap : (x y z : Bool) → (x || (y || z)) ≡ (y || (x || z))
or_swap true true z = refl
or_swap true false z = refl
or_swap false true z = refl
or_swap false false z = refl

or_same : (x y z : Bool) → x ≡ y → (x || (y || z)) ≡ (x || z)
or_same true y z e = refl
or_same false y z e = ap (λ (t : Bool). t || z) (sym e)

or_group : (x y z : Bool) → (x || (y || z)) ≡ ((y || x) || z)
or_group true true z = refl
or_group true false z = refl
or_group false true z = refl
or_group false false z = refl

holds-without : (page q : ℕ) (pages : List ℕ) → (eqb page q || holds (without_first page pages) q) ≡ (eqb page q || holds pages q)
unfolding holds without_first
holds-without page q [] = refl
holds-without page q (x ∷ pages) = elim (cases_Bool (eqb x page)) [
  | inl same ↦
      ap (λ (t : List ℕ). eqb page q || holds t q) (cond-true (eqb x page) pages (x ∷ without_first page pages) same) ∙
      sym (or_same (eqb page q) (eqb x q) (holds pages q) (ap (λ (k : ℕ). eqb k q) (sym (eqb-true x page same))))
  | inr other ↦
      ap (λ (t : List ℕ). eqb page q || holds t q) (cond-false (eqb x page) pages (x ∷ without_first page pages) other) ∙
      or_swap (eqb page q) (eqb x q) (holds (without_first page pages) q) ∙
      ap (λ (t : Bool). eqb x q || t) (holds-without page q pages) ∙
      or_swap (eqb x q) (eqb page q) (holds pages q)
]

holds-stack : (history : List ℕ) (q : ℕ) → holds (stack history) q ≡ holds history q
unfolding holds stack
holds-stack [] q = refl
holds-stack (page ∷ history) q = holds-without page q (stack history) ∙ ap (λ (t : Bool). eqb page q || t) (holds-stack history q)

pub length-without : (page : ℕ) (pages : List ℕ) → length (without_first page pages) + (if holds pages page then 1 else 0) ≡ length pages
unfolding holds without_first
length-without page [] = refl
length-without page (q ∷ pages) =
    elim (eqb q page) as (λ b. length ((if b then pages else (q ∷ without_first page pages))) + (if b || holds pages page then 1 else 0) ≡ suc (length pages)) [
      | true ↦ omega arith
      | false ↦ let h = length-without page pages in omega arith
    ]

length-stack : (history : List ℕ) → length (stack history) ≡ distinct_pages history
unfolding stack distinct_pages
length-stack [] = refl
length-stack (page ∷ history) =
    let h = length-stack history in
    let w = length-without page (stack history) in
    let same = choose (holds (stack history) page) (holds history page) 1 0 (holds-stack history page) in
    let one = hit_or_fault (holds history page) in
    omega arith

holds_push : (refs : List ℕ) (page q : ℕ) → holds (refs ++ page ∷ []) q ≡ (eqb page q || holds refs q)
unfolding holds
holds_push [] page q = refl
holds_push (x ∷ refs) page q = ap (λ (t : Bool). eqb x q || t) (holds_push refs page q) ∙ or_swap (eqb x q) (eqb page q) (holds refs q)

eqb_swap : (x y : ℕ) → eqb x y ≡ eqb y x
eqb_swap x y = grind arith

distinct_push : (refs : List ℕ) (page : ℕ) → distinct_pages (refs ++ page ∷ []) ≡ (if holds refs page then 0 else 1) + distinct_pages refs
unfolding distinct_pages holds
distinct_push [] page = refl
distinct_push (x ∷ refs) page =
    let h = distinct_push refs page in
    let p = choose (holds (refs ++ page ∷ []) x) (eqb page x || holds refs x) 0 1 (holds_push refs page x) in
    let c = counts_once x page (holds refs) in
    omega arith
  where
    counts_once : (x page : ℕ) (held : ℕ → Bool)
        → (if eqb page x || held x then 0 else 1) + (if held page then 0 else 1) ≡ (if eqb x page || held page then 0 else 1) + (if held x then 0 else 1)
    counts_once x page held = elim (cases_Bool (eqb x page)) [
      | inl same ↦
          let e = eqb-true x page same in
          let at : held x ≡ held page = ap held e in
          let back = eqb_swap page x ∙ same in
          grind arith
      | inr other ↦
          let back = eqb_swap page x ∙ other in
          grind arith
    ]

after_append : (refs history : List ℕ) → after refs history ≡ after refs [] ++ history
unfolding after
after_append [] history = refl
after_append (page ∷ refs) history =
    after_append refs (page ∷ history) ∙
    split (after refs []) page history ∙
    ap (λ (t : List ℕ). t ++ history) (sym (after_append refs (page ∷ [])))
  where
    split : (xs : List ℕ) (page : ℕ) (history : List ℕ) → xs ++ page ∷ history ≡ (xs ++ page ∷ []) ++ history
    split [] page history = refl
    split (x ∷ xs) page history = ap (λ (t : List ℕ). x ∷ t) (split xs page history)

holds-after : (refs history : List ℕ) (q : ℕ) → holds (after refs history) q ≡ (holds refs q || holds history q)
unfolding after holds
holds-after [] history q = refl
holds-after (page ∷ refs) history q =
    holds-after refs (page ∷ history) q ∙ or_group (holds refs q) (eqb page q) (holds history q)

or_false : (b : Bool) → (b || false) ≡ b
or_false true = refl
or_false false = refl

distinct-after : (refs : List ℕ) → distinct_pages (after refs []) ≡ distinct_pages refs
unfolding after distinct_pages holds
distinct-after [] = refl
distinct-after (page ∷ refs) =
    ap distinct_pages (after_append refs (page ∷ [])) ∙
    distinct_push (after refs []) page ∙
    both ((if holds (after refs []) page then 0 else 1)) ((if holds refs page then 0 else 1)) (distinct_pages (after refs [])) (distinct_pages refs)
    (ap (λ (b : Bool). (if b then 0 else 1)) (holds_all refs page)) (distinct-after refs)
  where
    holds_all : (refs : List ℕ) (page : ℕ) → holds (after refs []) page ≡ holds refs page
    holds_all refs page = holds-after refs [] page ∙ or_false (holds refs page)

    both : (a b c d : ℕ) → a ≡ b → c ≡ d → a + c ≡ b + d
    both a b c d e f = omega arith

pub depth_is : (refs : List ℕ) → length (stack (after refs [])) ≡ distinct_pages refs
depth_is refs = length-stack (after refs []) ∙ distinct-after refs

-- ---- hits by depth

-- room for n pages reaches to this place of the stack
abbrev pub reaches : ℕ → Option ℕ → Bool
reaches n None = false
reaches n (Some depth) = ltb depth n

reaches_none : (o : Option ℕ) → reaches zero o ≡ false
reaches_none None = refl
reaches_none (Some depth) = le-ltb depth 0 (omega arith)

reaches_suc : (n : ℕ) (o : Option ℕ) → reaches (suc n) (option_map suc o) ≡ reaches n o
reaches_suc n None = refl
reaches_suc n (Some depth) = elim (cases_lt depth n) [
  | inl below ↦ lt-ltb (suc depth) (suc n) (omega arith) ∙ sym (lt-ltb depth n below)
  | inr above ↦ le-ltb (suc depth) (suc n) (omega arith) ∙ sym (le-ltb depth n above)
]

-- a page is among the top n exactly where n reaches to it
pub holds-take : (n page : ℕ) (pages : List ℕ) → holds (take n pages) page ≡ reaches n (place_in page pages)
unfolding holds place_in
holds-take zero page [] = refl
holds-take (suc n) page [] = refl
holds-take zero page (q ∷ pages) = sym (reaches_none (place_in page (q ∷ pages)))
holds-take (suc n) page (q ∷ pages) =
    elim (eqb q page) as (λ b. (b || holds (take n pages) page) ≡ reaches (suc n) ((if b then (Some 0) else (option_map suc (place_in page pages))))) [
      | true ↦ sym (lt-ltb 0 (suc n) (omega arith))
      | false ↦ holds-take n page pages ∙ sym (reaches_suc n (place_in page pages))
    ]

-- ---- the place of a page in a list

pub place_here : (page q : ℕ) (pages : List ℕ) → eqb q page ≡ true → place_in page (q ∷ pages) ≡ Some 0
unfolding place_in
place_here page q pages e = cond-true (eqb q page) (Some 0) (option_map suc (place_in page pages)) e

pub place_later : (page q : ℕ) (pages : List ℕ) → eqb q page ≡ false → place_in page (q ∷ pages) ≡ option_map suc (place_in page pages)
unfolding place_in
place_later page q pages e = cond-false (eqb q page) (Some 0) (option_map suc (place_in page pages)) e

pub suc_of : (o : Option ℕ) (k : ℕ) → option_map suc o ≡ Some k → (j : ℕ) × (o ≡ Some j) × (k ≡ suc j)
suc_of None k e = cc
suc_of (Some j) k e = (j, refl, cc)

pub place_below : (page : ℕ) (pages : List ℕ) (k : ℕ) → place_in page pages ≡ Some k → k < length pages
unfolding place_in
place_below page [] k e = cc
place_below page (q ∷ pages) k e = elim (cases_Bool (eqb q page)) [
  | inl same ↦ let z : k ≡ 0 = zero_is k (sym (place_here page q pages same) ∙ e) in omega arith
  | inr other ↦
      let j = suc_of (place_in page pages) k (sym (place_later page q pages other) ∙ e) in
      let h = place_below page pages j.0 j.1 in
      let f = j.2 in
      omega arith
]
  where
    zero_is : (k : ℕ) → Some 0 ≡ Some k → k ≡ 0
    zero_is k e = cc

pub page_at : (page : ℕ) (pages : List ℕ) (k : ℕ) → place_in page pages ≡ Some k → get_or pages k page ≡ page
unfolding place_in
page_at page [] k e = refl
page_at page (q ∷ pages) k e = elim (cases_Bool (eqb q page)) [
  | inl same ↦
      subst (λ (i : ℕ). get_or (q ∷ pages) i page ≡ page) (zero_is k (sym (place_here page q pages same) ∙ e)) (eqb-true q page same)
  | inr other ↦
      let j = suc_of (place_in page pages) k (sym (place_later page q pages other) ∙ e) in
      subst (λ (i : ℕ). get_or (q ∷ pages) i page ≡ page) (sym j.2) (page_at page pages j.0 j.1)
]
  where
    zero_is : (k : ℕ) → Some 0 ≡ Some k → 0 ≡ k
    zero_is k e = cc

pub place_none : (page : ℕ) (pages : List ℕ) → place_in page pages ≡ None → holds pages page ≡ false
unfolding place_in holds
place_none page [] e = refl
place_none page (q ∷ pages) e = elim (cases_Bool (eqb q page)) [
  | inl same ↦ absurd (some_none (sym (place_here page q pages same) ∙ e))
  | inr other ↦
      ap (λ (b : Bool). b || holds pages page) other ∙
      place_none page pages (none_of (place_in page pages) (sym (place_later page q pages other) ∙ e))
]
  where
    some_none : {n : ℕ} → Some n ≡ None → ⊥
    some_none e = cc

    none_of : (o : Option ℕ) → option_map suc o ≡ None → o ≡ None
    none_of None e = refl
    none_of (Some j) e = cc

pub place_some : (page : ℕ) (pages : List ℕ) (k : ℕ) → place_in page pages ≡ Some k → holds pages page ≡ true
unfolding place_in holds
place_some page [] k e = cc
place_some page (q ∷ pages) k e = elim (cases_Bool (eqb q page)) [
  | inl same ↦ ap (λ (b : Bool). b || holds pages page) same
  | inr other ↦
      let j = suc_of (place_in page pages) k (sym (place_later page q pages other) ∙ e) in
      ap (λ (b : Bool). b || holds pages page) other ∙ place_some page pages j.0 j.1
]

-- ---- hits by depth

total-take-push : (n : ℕ) (xs : List ℕ) → total (take n (xs ++ 0 ∷ [])) ≡ total (take n xs)
unfolding total none
total-take-push zero xs = refl
total-take-push (suc n) [] = let e = ap total (take-nil n) in omega arith
total-take-push (suc n) (x ∷ xs) = ap (λ t. x + t) (total-take-push n xs)

pub ltb_suc : (m n : ℕ) → ltb (suc m) (suc n) ≡ ltb m n
ltb_suc m n = reaches_suc n (Some m)

pub total-take-set : (n : ℕ) (xs : List ℕ) (at : ℕ) → at < length xs
    → total (take n (set xs at (get_or xs at 0 + 1))) ≡ (if ltb at n then 1 else 0) + total (take n xs)
unfolding total
total-take-set n [] at lt = absurd (omega arith)
total-take-set zero (x ∷ xs) at lt = let e = choose (ltb at 0) false 1 0 (le-ltb at 0 (omega arith)) in omega arith
total-take-set (suc n) (x ∷ xs) zero lt = let e = choose (ltb 0 (suc n)) true 1 0 (lt-ltb 0 (suc n) (omega arith)) in omega arith
total-take-set (suc n) (x ∷ xs) (suc at) lt =
    let h = total-take-set n xs at (omega arith) in
    let e = choose (ltb (suc at) (suc n)) (ltb at n) 1 0 (reaches_suc n (Some at)) in
    omega arith

pub get-le-total : (xs : List ℕ) (at : ℕ) → get_or xs at 0 ≤ total (take (suc at) xs)
unfolding total
get-le-total [] at = omega arith
get-le-total (x ∷ xs) zero = omega arith
get-le-total (x ∷ xs) (suc at) = let h = get-le-total xs at in omega arith

pub hits_within-le : (n : ℕ) (history : List ℕ) → hits_within n history ≤ length history
unfolding hits_within
hits_within-le n [] = omega arith
hits_within-le n (page ∷ history) =
    let h = hits_within-le n history in
    let one = hit_or_fault (holds (take n (stack history)) page) in
    omega arith

-- a hit counted at its depth
pub hit_counted : (n page : ℕ) (history hits : List ℕ) → length hits ≡ length (stack history) → total (take n hits) ≡ hits_within n history
    → total (take n (counted hits (place_in page (stack history)))) ≡ hits_within n (page ∷ history)
unfolding hits_within
hit_counted n page history hits room so_far =
    at (place_in page (stack history)) (λ k e. place_below page (stack history) k e) refl ∙
    ap (λ (b : Bool). (if b then 1 else 0) + total (take n hits)) (sym (holds-take n page (stack history))) ∙
    ap (λ t. (if holds (take n (stack history)) page then 1 else 0) + t) so_far
  where
    at : (o : Option ℕ) → ((k : ℕ) → o ≡ Some k → k < length (stack history)) → place_in page (stack history) ≡ o
        → total (take n (counted hits o)) ≡ (if reaches n o then 1 else 0) + total (take n hits)
    at None below e = let h = total-take-push n hits in omega arith
    at (Some k) below e = let b = below k refl in total-take-set n hits k (omega arith)

-- and there are as many depths as pages on the stack
pub depths_counted : (page : ℕ) (pages hits : List ℕ) → length hits ≡ length pages
    → length (counted hits (place_in page pages)) ≡ suc (length (without_first page pages))
depths_counted page pages hits same = at (place_in page pages) refl
  where
    at : (o : Option ℕ) → place_in page pages ≡ o → length (counted hits o) ≡ suc (length (without_first page pages))
    at None e =
        let w = length-without page pages in
        let z = choose (holds pages page) false 1 0 (place_none page pages e) in
        let l = length_push {X = ℕ} hits 0 in
        omega arith
    at (Some k) e =
        let w = length-without page pages in
        let z = choose (holds pages page) true 1 0 (place_some page pages k e) in
        let l = length-set hits k (get_or hits k 0 + 1) in
        omega arith

-- ---- faults from hits

pub total-take-more : (xs : List ℕ) (i : ℕ) → total (take (suc i) xs) ≡ total (take i xs) + get_or xs i 0
unfolding total
total-take-more [] zero = refl
total-take-more [] (suc i) = refl
total-take-more (x ∷ xs) zero = omega arith
total-take-more (x ∷ xs) (suc i) = let h = total-take-more xs i in omega arith

-- what the hits so far leave of the references
pub record Left (i faults references : ℕ) (hits counts : List ℕ) : Type 0 where
  pub so_far : faults + total (take i hits) ≡ references
  pub changed : (k : ℕ) → k < i → get_or counts k 0 + total (take (k + 1) hits) ≡ references
  pub rest : (k : ℕ) → i ≤ k → get_or counts k 0 ≡ get_or hits k 0

pub left_starts : (references : ℕ) (hits : List ℕ) → Left 0 references references hits hits
unfolding total
left_starts references hits = record {
  so_far = omega arith;
  changed = λ k lt. absurd (omega arith);
  rest = λ k le. refl;
}

pub left_fits : (i faults references : ℕ) (hits counts : List ℕ) → Left i faults references hits counts → total hits ≤ references → get_or counts i 0 ≤ faults
left_fits i faults references hits counts l le =
    let more = total-take-more hits i in
    let part = total-take-le (suc i) hits in
    let s = l.so_far in
    let here = l.rest i (omega arith) in
    omega arith

pub left_more : (i faults references : ℕ) (hits counts : List ℕ) → Left i faults references hits counts → total hits ≤ references → i < length counts
    → Left (i + 1) (faults - get_or counts i 0) references hits (set counts i (faults - get_or counts i 0))
left_more i faults references hits counts l le lt =
    let more = ap (λ (n : ℕ). total (take n hits)) (add-one i) ∙ total-take-more hits i in
    let part = left_fits i faults references hits counts l le in
    let s = l.so_far in
    let here = l.rest i (omega arith) in
    record {
      so_far = omega arith;
      changed = λ k below. elim (cases_eq k i) [
        | inl same ↦
            let new = ap (λ (j : ℕ). get_or (set counts i (faults - get_or counts i 0)) j 0) same ∙ get_or-set_same counts i (faults - get_or counts i 0) 0 lt in
            let sums = ap (λ (j : ℕ). total (take (j + 1) hits)) same in
            omega arith
        | inr other ↦
            let new = get_or-set_other counts i k (faults - get_or counts i 0) 0 other in
            let old = l.changed k (omega arith) in
            omega arith
      ];
      rest = λ k above. get_or-set_other counts i k (faults - get_or counts i 0) 0 (λ e. omega arith) ∙ l.rest k (omega arith);
    }

pub hits_fit : (hits refs : List ℕ) → total (take (length hits) hits) + lru_faults refs (length hits) ≡ length refs → total hits ≤ length refs
hits_fit hits refs both = let all = ap (λ (xs : List ℕ). total xs) (take_all (length hits) hits (omega arith)) in omega arith

-- where the hits at all depths are counted, room for more makes no more of them
pub same_past : (hits refs : List ℕ) (n m : ℕ) → length hits ≤ m → m ≤ n → ((k : ℕ) → total (take k hits) + lru_faults refs k ≡ length refs)
    → lru_faults refs n ≡ lru_faults refs m
same_past hits refs n m all more counts =
    let upper = counts n in
    let lower = counts m in
    let same = ap (λ (xs : List ℕ). total xs) (take_all n hits (omega arith) ∙ sym (take_all m hits all)) in
    omega arith
