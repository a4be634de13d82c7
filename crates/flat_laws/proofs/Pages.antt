-- Pages in lists of pages.
use Rattle.std.proofs.Common.{◌≡◌, Bool, true, false, not, cond, ◌||◌, List, [], ◌∷◌, filter, refl, ap, ◌∙◌}
use Rattle.vm_facts.specs.declared.page.Page.{Page}
use Rattle.flat_state.specs.PageNames.{same_page, is_among}
use Rattle.flat_model.specs.Touched.{distinct}
use Rattle.flat_state.proofs.PageNames.{same_page_self, same_page_is}

-- a page stays among those that another test than itself leaves
among_kept : (test : Page → Bool) (q : Page) (xs : List Page) → test q ≡ true → is_among q xs ≡ true → is_among q (filter test xs) ≡ true
among_kept test q [] t h = absurd cc
among_kept test q (x ∷ xs) t h = go (λ k. among_kept test q xs t k) (same_page q x) refl h (test x) refl
  where
    go : (is_among q xs ≡ true → is_among q (filter test xs) ≡ true) → (a : Bool) → same_page q x ≡ a → (a || is_among q xs) ≡ true → (b : Bool) → test x ≡ b
        → is_among q (cond b (x ∷ filter test xs) (filter test xs)) ≡ true
    go later true e k true f = ap (λ (a : Bool). a || is_among q (filter test xs)) e
    go later true e k false f = let same : q ≡ x = same_page_is q x e in absurd (let no_test : test q ≡ false = ap test same ∙ f in cc)
    go later false e k true f = ap (λ (a : Bool). a || is_among q (filter test xs)) e ∙ later k
    go later false e k false f = later k

-- no page is lost where each is kept once
pub among_distinct : (q : Page) (xs : List Page) → is_among q xs ≡ true → is_among q (distinct xs) ≡ true
unfolding distinct
among_distinct q [] h = absurd cc
among_distinct q (x ∷ xs) h = go (λ k. among_distinct q xs k) (same_page q x) refl h (same_page x q) refl
  where
    go : (is_among q xs ≡ true → is_among q (distinct xs) ≡ true) → (a : Bool) → same_page q x ≡ a → (a || is_among q xs) ≡ true → (b : Bool) → same_page x q ≡ b
        → (same_page q x || is_among q (filter (λ other. not (same_page x other)) (distinct xs))) ≡ true
    go later true e k b f = ap (λ (a : Bool). a || is_among q (filter (λ other. not (same_page x other)) (distinct xs))) e
    go later false e k true f =
        let same : x ≡ q = same_page_is x q f in
        absurd (let self : same_page q x ≡ true = ap (λ (r : Page). same_page q r) same ∙ same_page_self q in cc)
    go later false e k false f =
        ap (λ (a : Bool). a || is_among q (filter (λ other. not (same_page x other)) (distinct xs))) e
        ∙ among_kept (λ other. not (same_page x other)) q (distinct xs) (ap not f) (later k)
