-- The first pages of a list that has each page once.
use Rattle.std.proofs.Common.{◌≡◌, Bool, true, false, not, ◌&&◌, ◌||◌, cond, List, [], ◌∷◌, ◌++◌, filter, append_assoc, refl, sym, ap, ◌∙◌}
use Rattle.vm_facts.specs.declared.page.Page.{Page}
use Rattle.flat_state.specs.PageNames.{same_page, is_among}
use Rattle.flat_state.proofs.PageLists.{left, AllAmong, among_more, among_last, left_other, left_more, filter_both, filter_all}
use Rattle.flat_model.specs.Touched.{distinct}

-- they stay among more
all_more : (pages ps : List Page) (q : Page) → AllAmong pages ps → AllAmong (pages ++ q ∷ []) ps
all_more pages [] q h = tt
all_more pages (p ∷ ps) q h = (among_more pages q p ∙ ap (λ (b : Bool). b || same_page q p) h.0, all_more pages ps q h.1)

-- What is left of a list.

-- of those after pages that are there, as much is left as of all
left_behind : (pages front back : List Page) → AllAmong pages front → filter (left pages) (distinct (front ++ back)) ≡ filter (left pages) (distinct back)
unfolding distinct
left_behind pages [] back h = refl
left_behind pages (p ∷ front) back h =
    ap (λ (b : Bool). cond (not b) (p ∷ filter (left pages) (filter (λ q. not (same_page p q)) (distinct (front ++ back))))
    (filter (left pages) (filter (λ q. not (same_page p q)) (distinct (front ++ back))))) h.0
    ∙ filter_both (left pages) (λ q. not (same_page p q)) (left pages) (λ q. left_other pages p q h.0) (distinct (front ++ back))
    ∙ left_behind pages front back h.1

-- where the first isn't there, it comes first
left_first : (pages back : List Page) (p : Page) → is_among p pages ≡ false
    → filter (left pages) (distinct (p ∷ back)) ≡ p ∷ filter (left (pages ++ p ∷ [])) (distinct back)
unfolding distinct
left_first pages back p h =
    ap (λ (b : Bool). cond (not b) (p ∷ filter (left pages) (filter (λ q. not (same_page p q)) (distinct back))) (filter (left pages) (filter (λ q. not (same_page p q)) (distinct back)))) h
    ∙ ap (λ (l : List Page). p ∷ l)
    (filter_both (left pages) (λ q. not (same_page p q)) (left (pages ++ p ∷ [])) (left_more pages p) (distinct back))

-- These are the first pages of a list that has each once: the others come after them.
abbrev pub AreFirst : List Page → List Page → Type 0
AreFirst pages qs = distinct qs ≡ pages ++ filter (left pages) (distinct qs)

pub none_first : (qs : List Page) → AreFirst [] qs
none_first qs = sym (filter_all (distinct qs))

-- after them comes the first page that is none of them
pub next_first : (pages front back : List Page) (q : Page) → AreFirst pages (front ++ q ∷ back) → AllAmong pages front → is_among q pages ≡ false
    → distinct (front ++ q ∷ back) ≡ pages ++ q ∷ filter (left (pages ++ q ∷ [])) (distinct (front ++ q ∷ back))
next_first pages front back q first all new =
    first
    ∙ ap (λ (l : List Page). pages ++ l)
    (left_behind pages front (q ∷ back) all ∙ left_first pages back q new
    ∙ ap (λ (l : List Page). q ∷ l)
    (sym (left_behind (pages ++ q ∷ []) front (q ∷ back) (all_more pages front q all) ∙ left_behind (pages ++ q ∷ []) (q ∷ []) back (among_last pages q, tt))))

pub more_first : (pages front back : List Page) (q : Page) → AreFirst pages (front ++ q ∷ back) → AllAmong pages front → is_among q pages ≡ false
    → AreFirst (pages ++ q ∷ []) (front ++ q ∷ back)
more_first pages front back q first all new =
    next_first pages front back q first all new
    ∙ sym (append_assoc pages (q ∷ []) (filter (left (pages ++ q ∷ [])) (distinct (front ++ q ∷ back))))

append_none : (qs : List Page) → qs ++ [] ≡ qs
append_none [] = refl
append_none (q ∷ qs) = ap (λ (l : List Page). q ∷ l) (append_none qs)

-- where none is left they are all
pub all_first : (pages qs : List Page) → AreFirst pages qs → AllAmong pages qs → distinct qs ≡ pages
unfolding distinct
all_first pages qs first all =
    first
    ∙ ap (λ (l : List Page). pages ++ l)
    (ap (λ (l : List Page). filter (left pages) (distinct l)) (sym (append_none qs)) ∙ left_behind pages qs [] all)
    ∙ append_none pages
