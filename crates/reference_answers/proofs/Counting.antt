-- There are as many numbers as pages.
use Rattle.std.proofs.Common.{◌≡◌, ℕ, suc, ◌+◌, ◌<◌, ◌≤◌, take, Bool, true, false, not, cond, if◌then◌else◌, ◌||◌, ◌==◌, map, length, List, [], ◌∷◌, refl, sym, ap, ◌∙◌, arith}
use Rattle.std.proofs.lemmas.List.{length-map, length-take-le}
use Rattle.vm_facts.specs.declared.page.Page.{Page}
use Rattle.flat_state.specs.PageNames.{same_page, is_among}
use Rattle.flat_state.proofs.PageNames.{same_page_is, same_page_self}
use Rattle.flat_model.specs.Touched.{distinct}
use Rattle.reference_answers.specs.Numbers.{number_from, numbers_of}
use Rattle.stack_dist.specs.Lru.{holds, distinct_pages}
use Rattle.reference_answers.proofs.Members.{but, among_but, among_distinct}
use Rattle.reference_answers.proofs.NumberLaws.{number_apart}

-- no page stands twice
abbrev pub AreOnce : List Page → Type 0
AreOnce [] = Unit {0}
AreOnce (p ∷ pages) = (is_among p pages ≡ false) × AreOnce pages

among_left : (p : Page) (pages : List Page) → is_among p (but p pages) ≡ false
among_left p [] = refl
among_left p (e ∷ es) = by (same_page p e) refl (among_left p es)
  where
    by : (b : Bool) → same_page p e ≡ b → is_among p (but p es) ≡ false → is_among p (cond (not b) (e ∷ but p es) (but p es)) ≡ false
    by true f rest = rest
    by false f rest = ap (λ c. c || is_among p (but p es)) f ∙ rest

among_fewer : (p q : Page) (pages : List Page) → is_among q pages ≡ false → is_among q (but p pages) ≡ false
among_fewer p q pages h = by (same_page p q) refl
  where
    by : (b : Bool) → same_page p q ≡ b → is_among q (but p pages) ≡ false
    by true f = ap (λ r. is_among r (but p pages)) (sym (same_page_is p q f)) ∙ among_left p pages
    by false f = among_but p q pages f ∙ h

once_but : (p : Page) (pages : List Page) → AreOnce pages → AreOnce (but p pages)
once_but p [] h = tt
once_but p (e ∷ es) h = by (same_page p e) (once_but p es h.1)
  where
    by : (b : Bool) → AreOnce (but p es) → AreOnce (cond (not b) (e ∷ but p es) (but p es))
    by true rest = rest
    by false rest = (among_fewer p e es h.0, rest)

once_distinct : (pages : List Page) → AreOnce (distinct pages)
unfolding distinct
once_distinct [] = tt
once_distinct (p ∷ more) = (among_left p (distinct more), once_but p (distinct more) (once_distinct more))

-- one page fewer, where it is there
length_but : (p : Page) (pages : List Page) → AreOnce pages → (if is_among p pages then 0 else 1) + length pages ≡ length (p ∷ but p pages)
length_but p [] h = refl
length_but p (e ∷ es) h = by (same_page p e) refl (length_but p es h.1)
  where
    by : (b : Bool) → same_page p e ≡ b → (if is_among p es then 0 else 1) + length es ≡ length (p ∷ but p es)
        → (if (b || is_among p es) then 0 else 1) + length (e ∷ es) ≡ length (p ∷ cond (not b) (e ∷ but p es) (but p es))
    by true f rest =
        let absent : is_among p es ≡ false = ap (λ r. is_among r es) (same_page_is p e f) ∙ h.0 in
        let kept : 1 + length es ≡ length (p ∷ but p es) = sym (ap (λ c. (if c then 0 else 1) + length es) absent) ∙ rest in
        omega arith
    by false f rest = omega arith

module _ (f : Page → ℕ) where
  -- the numbers of a page and of any other are two
  abbrev pub TellsApart : Page → Type 0
  TellsApart p = (q : Page) → (f q == f p) ≡ same_page p q

  holds_number : (p : Page) (pages : List Page) → TellsApart p → holds (map f pages) (f p) ≡ is_among p pages
  unfolding holds
  holds_number p [] apart = refl
  holds_number p (q ∷ pages) apart = ap (λ b. b || holds (map f pages) (f p)) (apart q) ∙ ap (λ b. same_page p q || b) (holds_number p pages apart)

  count_numbers : (refs : List Page) → ((p : Page) → is_among p refs ≡ true → TellsApart p) → distinct_pages (map f refs) ≡ length (distinct refs)
  unfolding distinct_pages distinct
  count_numbers [] apart = refl
  count_numbers (p ∷ more) apart =
      let here = holds_number p more (apart p (ap (λ b. b || is_among p more) (same_page_self p))) ∙ sym (among_distinct p more) in
      let rest = count_numbers more (λ q m. apart q (later q m (same_page q p))) in
      ap (λ b. (if b then 0 else 1) + distinct_pages (map f more)) here
      ∙ ap (λ n. (if is_among p (distinct more) then 0 else 1) + n) rest
      ∙ length_but p (distinct more) (once_distinct more)
    where
      later : (q : Page) → is_among q more ≡ true → (b : Bool) → (b || is_among q more) ≡ true
      later q m true = refl
      later q m false = m

-- references by number are to as many pages
pub as_many : (refs : List Page) → distinct_pages (numbers_of refs) ≡ length (distinct refs)
unfolding numbers_of
as_many refs = count_numbers (number_from 1 (distinct refs)) refs (λ p m q. number_apart p q (distinct refs) (among_distinct p refs ∙ m))

few : (b : Bool) (n k : ℕ) → (if b then 0 else 1) + n ≡ suc k → k ≤ n
few true n k e = omega arith
few false n k e = omega arith

-- there are at most as many pages as references
pub distinct_few : (refs : List Page) → length (distinct refs) ≤ length refs
unfolding distinct
distinct_few [] = omega arith
distinct_few (p ∷ more) =
    let one = few (is_among p (distinct more)) (length (distinct more)) (length (but p (distinct more))) (length_but p (distinct more) (once_distinct more)) in
    let rest = distinct_few more in
    omega arith

-- each reference has a number
pub length_numbers : (refs : List Page) → length (numbers_of refs) ≡ length refs
unfolding numbers_of
length_numbers refs = length-map refs (number_from 1 (distinct refs))

-- before a reference there are at most as many pages as references
pub pages_before : (refs : List Page) (i : ℕ) → i < length refs → length (distinct (take i refs)) ≤ i
pages_before refs i lt = let few = distinct_few (take i refs) in let all = length-take-le i refs (omega arith) in omega arith
