-- The numbers of pages: a page keeps its number where pages join after, and two pages have two numbers.
use Rattle.std.proofs.Common.{◌≡◌, ℕ, ◌+◌, ◌<◌, length, take, get_or, Bool, true, false, not, cond, ◌||◌, ◌==◌, map, List, [], ◌∷◌, ◌++◌, refl, sym, ap, ◌∙◌, true≢false, arith}
use Rattle.std.specs.List.{position_or_len}
use Rattle.std.proofs.lemmas.List.{map-append, take_more}
use Rattle.std.proofs.lemmas.Bool.Decides.{nat_tests}
use Rattle.vm_facts.specs.declared.page.Page.{Page}
use Rattle.flat_state.specs.PageNames.{same_page, is_among}
use Rattle.flat_state.proofs.PageNames.{same_page_is, same_page_self}
use Rattle.flat_state.proofs.PageLists.{same_turned}
use Rattle.flat_model.specs.Touched.{distinct}
use Rattle.reference_answers.specs.Keys.{with_page}
use Rattle.reference_answers.specs.Numbers.{number_from, numbers_of}
use Rattle.reference_answers.proofs.Members.{among_distinct, distinct_more}

place_kept : (q : Page) (pages more : List Page) → is_among q pages ≡ true → position_or_len (same_page q) (pages ++ more) ≡ position_or_len (same_page q) pages
place_kept q [] more h = absurd (true≢false (sym h))
place_kept q (e ∷ es) more h = by (same_page q e) refl (place_kept q es more)
  where
    by : (b : Bool) → same_page q e ≡ b → (is_among q es ≡ true → position_or_len (same_page q) (es ++ more) ≡ position_or_len (same_page q) es)
        → cond (not b) (1 + position_or_len (same_page q) (es ++ more)) 0 ≡ cond (not b) (1 + position_or_len (same_page q) es) 0
    by true f rest = refl
    by false f rest = ap (λ n. 1 + n) (rest (ap (λ c. c || is_among q es) (sym f) ∙ h))

-- a page that is among others keeps its number where one more joins them
number_kept : (q p : Page) (pages : List Page) → is_among q pages ≡ true → number_from 1 (with_page pages p) q ≡ number_from 1 pages q
unfolding number_from with_page
number_kept q p pages h = by (is_among p pages)
  where
    by : (m : Bool) → 1 + position_or_len (same_page q) (cond m pages (pages ++ p ∷ [])) ≡ 1 + position_or_len (same_page q) pages
    by true = refl
    by false = ap (λ n. 1 + n) (place_kept q pages (p ∷ []) h)

numbers_kept : (p : Page) (pages refs : List Page) → ((q : Page) → is_among q refs ≡ true → is_among q pages ≡ true)
    → map (number_from 1 (with_page pages p)) refs ≡ map (number_from 1 pages) refs
numbers_kept p pages [] h = refl
numbers_kept p pages (r ∷ refs) h =
    ap (λ n. n ∷ map (number_from 1 (with_page pages p)) refs) (number_kept r p pages (h r (ap (λ c. c || is_among r refs) (same_page_self r))))
    ∙ ap (λ ns. number_from 1 pages r ∷ ns) (numbers_kept p pages refs (λ q m. h q (later q m (same_page q r))))
  where
    later : (q : Page) → is_among q refs ≡ true → (b : Bool) → (b || is_among q refs) ≡ true
    later q m true = refl
    later q m false = m

-- the numbers of references and of one more
pub numbers_more : (refs : List Page) (q : Page) → numbers_of (refs ++ q ∷ []) ≡ numbers_of refs ++ number_from 1 (with_page (distinct refs) q) q ∷ []
unfolding numbers_of
numbers_more refs q =
    ap (λ pages. map (number_from 1 pages) (refs ++ q ∷ [])) (distinct_more refs q)
    ∙ map-append _ refs (q ∷ [])
    ∙ ap (λ ns. ns ++ number_from 1 (with_page (distinct refs) q) q ∷ []) (numbers_kept q (distinct refs) refs (λ r m. among_distinct r refs ∙ m))

same_as : (a b d : Page) → same_page a d ≡ true → same_page a b ≡ same_page b d
same_as a b d e = ap (λ r. same_page r b) (same_page_is a d e) ∙ same_turned d b

not_first : (n : ℕ) → (0 == 1 + n) ≡ false
not_first n = grind (arith, nat_tests)

first_not : (n : ℕ) → (1 + n == 0) ≡ false
first_not n = grind (arith, nat_tests)

place_apart : (a b : Page) (pages : List Page) → is_among a pages ≡ true
    → (position_or_len (same_page b) pages == position_or_len (same_page a) pages) ≡ same_page a b
place_apart a b [] h = absurd (true≢false (sym h))
place_apart a b (d ∷ ds) h = by (same_page a d) (same_page b d) refl refl (place_apart a b ds)
  where
    by : (x y : Bool) → same_page a d ≡ x → same_page b d ≡ y
        → (is_among a ds ≡ true → (position_or_len (same_page b) ds == position_or_len (same_page a) ds) ≡ same_page a b)
        → (cond (not y) (1 + position_or_len (same_page b) ds) 0 == cond (not x) (1 + position_or_len (same_page a) ds) 0) ≡ same_page a b
    by true true f g rest = sym (same_as a b d f ∙ g)
    by true false f g rest = first_not (position_or_len (same_page b) ds) ∙ sym (same_as a b d f ∙ g)
    by false true f g rest = not_first (position_or_len (same_page a) ds) ∙ sym (same_turned a b ∙ same_as b a d g ∙ f)
    by false false f g rest = grind (arith, nat_tests, rest (ap (λ c. c || is_among a ds) (sym f) ∙ h))

-- two pages have one number only where they are one page
pub number_apart : (a b : Page) (pages : List Page) → is_among a pages ≡ true → (number_from 1 pages b == number_from 1 pages a) ≡ same_page a b
unfolding number_from
number_apart a b pages h = grind (arith, nat_tests, place_apart a b pages h)

-- the pages and the numbers of references up to one more
pub pages_next : (refs : List Page) (i : ℕ) (d : Page) → i < length refs → with_page (distinct (take i refs)) (get_or refs i d) ≡ distinct (take (i + 1) refs)
pages_next refs i d lt = sym (ap distinct (take_more refs i d lt) ∙ distinct_more (take i refs) (get_or refs i d))

pub numbers_next : (refs : List Page) (i : ℕ) (d : Page) → i < length refs
    → numbers_of (take i refs) ++ number_from 1 (with_page (distinct (take i refs)) (get_or refs i d)) (get_or refs i d) ∷ [] ≡ numbers_of (take (i + 1) refs)
numbers_next refs i d lt = sym (ap numbers_of (take_more refs i d lt) ∙ numbers_more (take i refs) (get_or refs i d))

pub numbers_step : (refs pages after : List Page) (numbers : List ℕ) (i number : ℕ) (d : Page) → i < length refs
    → pages ≡ distinct (take i refs) → numbers ≡ numbers_of (take i refs) → after ≡ with_page pages (get_or refs i d)
    → number ≡ number_from 1 after (get_or refs i d)
    → numbers ++ number ∷ [] ≡ numbers_of (take (i + 1) refs)
numbers_step refs pages after numbers i number d lt ps ns joined n =
    let q = get_or refs i d in
    ap (λ ms. ms ++ number ∷ []) ns
    ∙ ap (λ m. numbers_of (take i refs) ++ m ∷ []) (n ∙ ap (λ qs. number_from 1 qs q) (joined ∙ ap (λ qs. with_page qs q) ps))
    ∙ numbers_next refs i d lt
