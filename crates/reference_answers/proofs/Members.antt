-- Which pages stand among distinct ones, and what one more reference makes of these.
use Rattle.std.proofs.Common.{◌≡◌, Bool, true, false, not, cond, ◌||◌, filter, List, [], ◌∷◌, ◌++◌, refl, sym, ap, ◌∙◌, true≢false, append-nil}
use Rattle.std.proofs.lemmas.List.Elements.{filter-append}
use Rattle.vm_facts.specs.declared.page.Page.{Page}
use Rattle.flat_state.specs.PageNames.{same_page, is_among}
use Rattle.flat_state.proofs.PageNames.{same_page_is, same_page_self}
use Rattle.flat_state.proofs.PageLists.{same_turned}
use Rattle.flat_model.specs.Touched.{distinct}
use Rattle.reference_answers.specs.Keys.{with_page}

-- all pages but one
abbrev pub but : Page → List Page → List Page
but p pages = filter (λ other. not (same_page p other)) pages

-- a page that is one of two isn't the other
pub not_same : (p q e : Page) → same_page p q ≡ false → same_page p e ≡ true → same_page q e ≡ false
not_same p q e apart same = by (same_page q e) refl
  where
    by : (b : Bool) → same_page q e ≡ b → b ≡ false
    by false f = refl
    by true f = absurd (true≢false (sym (same_page_self p) ∙ ap (same_page p) (same_page_is p e same ∙ sym (same_page_is q e f)) ∙ apart))

-- another page is among the rest as it was among all
pub among_but : (p q : Page) (pages : List Page) → same_page p q ≡ false → is_among q (but p pages) ≡ is_among q pages
among_but p q [] apart = refl
among_but p q (e ∷ es) apart = by (same_page p e) refl (among_but p q es apart)
  where
    by : (b : Bool) → same_page p e ≡ b → is_among q (but p es) ≡ is_among q es → is_among q (cond (not b) (e ∷ but p es) (but p es)) ≡ (same_page q e || is_among q es)
    by true f rest = rest ∙ ap (λ c. c || is_among q es) (sym (not_same p q e apart f))
    by false f rest = ap (λ c. same_page q e || c) rest

-- a page is among the distinct ones where it is among all
pub among_distinct : (q : Page) (pages : List Page) → is_among q (distinct pages) ≡ is_among q pages
unfolding distinct
among_distinct q [] = refl
among_distinct q (p ∷ more) = by (same_page q p) refl (among_distinct q more)
  where
    by : (b : Bool) → same_page q p ≡ b → is_among q (distinct more) ≡ is_among q more → (b || is_among q (but p (distinct more))) ≡ (b || is_among q more)
    by true f rest = refl
    by false f rest = among_but p q (distinct more) (same_turned p q ∙ f) ∙ rest

-- one page more, where it is the one that is left out, and where it is another
but_same : (p q : Page) (pages : List Page) → same_page p q ≡ true → but p (pages ++ q ∷ []) ≡ but p pages
but_same p q pages e = filter-append _ pages (q ∷ []) ∙ ap (λ b. but p pages ++ cond (not b) (q ∷ []) []) e ∙ append-nil (but p pages)

but_other : (p q : Page) (pages : List Page) → same_page p q ≡ false → but p (pages ++ q ∷ []) ≡ but p pages ++ q ∷ []
but_other p q pages e = filter-append _ pages (q ∷ []) ∙ ap (λ b. but p pages ++ cond (not b) (q ∷ []) []) e

step : (p q : Page) (pages : List Page) (b m : Bool) → same_page q p ≡ b → is_among q pages ≡ m
    → p ∷ but p (cond m pages (pages ++ q ∷ [])) ≡ cond (b || is_among q (but p pages)) (p ∷ but p pages) (p ∷ but p pages ++ q ∷ [])
step p q pages true true f g = refl
step p q pages true false f g = ap (λ r. p ∷ r) (but_same p q pages (same_turned p q ∙ f))
step p q pages false true f g = ap (λ c. cond c (p ∷ but p pages) (p ∷ but p pages ++ q ∷ [])) (sym (among_but p q pages (same_turned p q ∙ f) ∙ g))
step p q pages false false f g =
    let apart = same_turned p q ∙ f in
    ap (λ r. p ∷ r) (but_other p q pages apart) ∙ ap (λ c. cond c (p ∷ but p pages) (p ∷ but p pages ++ q ∷ [])) (sym (among_but p q pages apart ∙ g))

-- the distinct pages of references and of one more
pub distinct_more : (pages : List Page) (q : Page) → distinct (pages ++ q ∷ []) ≡ with_page (distinct pages) q
unfolding distinct with_page
distinct_more [] q = refl
distinct_more (p ∷ more) q = ap (λ r. p ∷ but p r) (distinct_more more q) ∙ step p q (distinct more) (same_page q p) (is_among q (distinct more)) refl refl
