-- Pages among pages, and those of a list that are none of them.
use Rattle.std.proofs.Common.{◌≡◌, Bool, true, false, not, ◌&&◌, ◌||◌, cond, List, [], ◌∷◌, ◌++◌, filter, refl, sym, ap, ◌∙◌}
use Rattle.vm_facts.specs.declared.page.Page.{Page}
use Rattle.flat_state.specs.PageNames.{same_page, is_among}
use Rattle.flat_state.proofs.PageNames.{same_page_self, same_page_is}

-- none of these pages
abbrev pub left : List Page → Page → Bool
left pages q = not (is_among q pages)

-- each of a list is among these pages
abbrev pub AllAmong : List Page → List Page → Type 0
AllAmong pages [] = Unit {0}
AllAmong pages (p ∷ ps) = (is_among p pages ≡ true) × AllAmong pages ps

pub same_turned : (p q : Page) → same_page p q ≡ same_page q p
same_turned p q = go (same_page p q) (same_page q p) refl refl
  where
    go : (a b : Bool) → same_page p q ≡ a → same_page q p ≡ b → a ≡ b
    go true true e k = refl
    go true false e k =
        let self : same_page q p ≡ true = ap (λ (r : Page). same_page q r) (same_page_is p q e) ∙ same_page_self q in
        absurd cc
    go false true e k =
        let self : same_page p q ≡ true = ap (λ (r : Page). same_page p r) (same_page_is q p k) ∙ same_page_self p in
        absurd cc
    go false false e k = refl

or_assoc : (a b c : Bool) → (a || (b || c)) ≡ ((a || b) || c)
or_assoc true b c = refl
or_assoc false b c = refl

-- one more page is among them
pub among_more : (ps : List Page) (p q : Page) → is_among q (ps ++ p ∷ []) ≡ (is_among q ps || same_page p q)
among_more [] p q = or_false (same_page q p) ∙ same_turned q p
  where
    or_false : (b : Bool) → (b || false) ≡ b
    or_false true = refl
    or_false false = refl
among_more (r ∷ ps) p q = ap (λ (b : Bool). same_page q r || b) (among_more ps p q) ∙ or_assoc (same_page q r) (is_among q ps) (same_page p q)

pub among_kept : (ps : List Page) (p q : Page) → is_among q ps ≡ true → is_among q (ps ++ p ∷ []) ≡ true
among_kept ps p q h = among_more ps p q ∙ ap (λ (b : Bool). b || same_page p q) h

pub among_last : (ps : List Page) (p : Page) → is_among p (ps ++ p ∷ []) ≡ true
among_last ps p = among_more ps p p ∙ go (is_among p ps) (same_page p p) (same_page_self p)
  where
    go : (a b : Bool) → b ≡ true → (a || b) ≡ true
    go true b h = refl
    go false b h = h

-- what is none of these pages is not this one of them
pub left_other : (pages : List Page) (p q : Page) → is_among p pages ≡ true → left pages q ≡ (left pages q && not (same_page p q))
left_other pages p q h = go (is_among q pages) (same_page p q) refl refl
  where
    go : (a b : Bool) → is_among q pages ≡ a → same_page p q ≡ b → not a ≡ (not a && not b)
    go true b e k = refl
    go false false e k = refl
    go false true e k =
        let same : is_among p pages ≡ is_among q pages = ap (λ (r : Page). is_among r pages) (same_page_is p q k) in
        absurd cc

-- what is none of these pages and one more is none of the pages, and not that one
pub left_more : (ps : List Page) (p q : Page) → left (ps ++ p ∷ []) q ≡ (left ps q && not (same_page p q))
left_more ps p q = ap not (among_more ps p q) ∙ not_or (is_among q ps) (same_page p q)
  where
    not_or : (a b : Bool) → not (a || b) ≡ (not a && not b)
    not_or true b = refl
    not_or false b = refl

-- a list sifted twice
pub filter_both : {X : Type 0} (f g h : X → Bool) → ((x : X) → h x ≡ (f x && g x)) → (xs : List X) → filter f (filter g xs) ≡ filter h xs
filter_both f g h is [] = refl
filter_both {X = X} f g h is (x ∷ xs) = go (filter_both f g h is xs) (g x) (f x) refl (is x)
  where
    go : filter f (filter g xs) ≡ filter h xs → (b a : Bool) → f x ≡ a → h x ≡ (f x && b) → filter f (cond b (x ∷ filter g xs) (filter g xs)) ≡ cond (h x) (x ∷ filter h xs) (filter h xs)
    go more true true e k =
        ap (λ (c : Bool). cond c (x ∷ filter f (filter g xs)) (filter f (filter g xs))) e ∙ ap (λ (l : List X). x ∷ l) more
        ∙ sym (ap (λ (c : Bool). cond c (x ∷ filter h xs) (filter h xs)) (k ∙ ap (λ (c : Bool). c && true) e))
    go more true false e k =
        ap (λ (c : Bool). cond c (x ∷ filter f (filter g xs)) (filter f (filter g xs))) e ∙ more
        ∙ sym (ap (λ (c : Bool). cond c (x ∷ filter h xs) (filter h xs)) (k ∙ ap (λ (c : Bool). c && true) e))
    go more false true e k =
        more ∙ sym (ap (λ (c : Bool). cond c (x ∷ filter h xs) (filter h xs)) (k ∙ ap (λ (c : Bool). c && false) e))
    go more false false e k =
        more ∙ sym (ap (λ (c : Bool). cond c (x ∷ filter h xs) (filter h xs)) (k ∙ ap (λ (c : Bool). c && false) e))

pub filter_all : {X : Type 0} (xs : List X) → filter (λ x. true) xs ≡ xs
filter_all [] = refl
filter_all {X = X} (x ∷ xs) = ap (λ (l : List X). x ∷ l) (filter_all xs)
