-- How many different pages there are in a list.
use Rattle.std.proofs.Common.{◌≡◌, suc, ◌≤◌, Bool, true, false, not, cond, ◌||◌, List, [], ◌∷◌, length, filter, refl, sym, ap, ◌∙◌, arith}
use Rattle.flat_state.proofs.PageNames.{same_page_self, same_page_is}
use Rattle.vm_facts.specs.declared.page.Page.{Page}
use Rattle.flat_state.specs.PageNames.{same_page, is_among}
use Rattle.flat_model.specs.Touched.{distinct}

pub among_first : (q : Page) (xs : List Page) → is_among q (q ∷ xs) ≡ true
among_first q xs = ap (λ (a : Bool). a || is_among q xs) (same_page_self q)

pub among_later : (q r : Page) (xs : List Page) → is_among q xs ≡ true → is_among q (r ∷ xs) ≡ true
among_later q r xs h = go (same_page q r)
  where
    go : (a : Bool) → (a || is_among q xs) ≡ true
    go true = refl
    go false = h

pub among_is : (q r : Page) (xs : List Page) → q ≡ r → is_among q (r ∷ xs) ≡ true
among_is q r xs e = ap (λ (p : Page). is_among q (p ∷ xs)) (sym e) ∙ among_first q xs

-- all but this page
abbrev but : Page → List Page → List Page
but q xs = filter (λ other. not (same_page q other)) xs

-- who is among those that are left was among all, and is another page
filtered_among : (test : Page → Bool) (q : Page) (xs : List Page) → is_among q (filter test xs) ≡ true → (is_among q xs ≡ true) × (test q ≡ true)
filtered_among test q [] h = absurd cc
filtered_among test q (x ∷ xs) h = go (λ k. filtered_among test q xs k) (test x) refl h
  where
    here : (is_among q (filter test xs) ≡ true → (is_among q xs ≡ true) × (test q ≡ true)) → test x ≡ true → (a : Bool) → same_page q x ≡ a → (a || is_among q (filter test xs)) ≡ true
        → (is_among q (x ∷ xs) ≡ true) × (test q ≡ true)
    here later t true e k = (ap (λ (a : Bool). a || is_among q xs) e, ap test (same_page_is q x e) ∙ t)
    here later t false e k = (among_later q x xs (later k).0, (later k).1)

    go : (is_among q (filter test xs) ≡ true → (is_among q xs ≡ true) × (test q ≡ true)) → (b : Bool) → test x ≡ b → is_among q (cond b (x ∷ filter test xs) (filter test xs)) ≡ true
        → (is_among q (x ∷ xs) ≡ true) × (test q ≡ true)
    go later true t k = here later t (same_page q x) refl k
    go later false t k = (among_later q x xs (later k).0, (later k).1)

-- no page stands twice
abbrev NoneTwice : List Page → Type 0
NoneTwice [] = Unit {0}
NoneTwice (x ∷ xs) = (is_among x xs ≡ false) × NoneTwice xs

not_among : (q : Page) (xs : List Page) → (is_among q xs ≡ true → ⊥) → is_among q xs ≡ false
not_among q xs h = go (is_among q xs) refl
  where
    go : (b : Bool) → is_among q xs ≡ b → is_among q xs ≡ false
    go true e = absurd (h e)
    go false e = e

none_filtered : (test : Page → Bool) (xs : List Page) → NoneTwice xs → NoneTwice (filter test xs)
none_filtered test [] h = tt
none_filtered test (x ∷ xs) h = go (none_filtered test xs h.1) (test x)
  where
    go : NoneTwice (filter test xs) → (b : Bool) → NoneTwice (cond b (x ∷ filter test xs) (filter test xs))
    go later true = (not_among x (filter test xs) (λ k. let all = (filtered_among test x xs k).0 in let none = h.0 in absurd cc), later)
    go later false = later

none_distinct : (xs : List Page) → NoneTwice (distinct xs)
unfolding distinct
none_distinct [] = tt
none_distinct (x ∷ xs) = (
  not_among x (but x (distinct xs)) (λ k. let other = (filtered_among (λ other. not (same_page x other)) x (distinct xs) k).1 in let self = ap not (same_page_self x) in absurd cc),
  none_filtered (λ other. not (same_page x other)) (distinct xs) (none_distinct xs),
)

among_distinct : (q : Page) (xs : List Page) → is_among q (distinct xs) ≡ true → is_among q xs ≡ true
unfolding distinct
among_distinct q [] h = absurd cc
among_distinct q (x ∷ xs) h = go (λ k. among_distinct q xs k) (same_page q x) refl h
  where
    go : (is_among q (distinct xs) ≡ true → is_among q xs ≡ true) → (a : Bool) → same_page q x ≡ a → (a || is_among q (but x (distinct xs))) ≡ true → (same_page q x || is_among q xs) ≡ true
    go later true e k = ap (λ (a : Bool). a || is_among q xs) e
    go later false e k = among_later q x xs (later (filtered_among (λ other. not (same_page x other)) q (distinct xs) k).0)

-- without a page that isn't there the list is as long
but_absent : (q : Page) (xs : List Page) → is_among q xs ≡ false → length (but q xs) ≡ length xs
but_absent q [] h = refl
but_absent q (x ∷ xs) h = go (λ k. but_absent q xs k) (same_page q x) h
  where
    go : (is_among q xs ≡ false → length (but q xs) ≡ length xs) → (a : Bool) → (a || is_among q xs) ≡ false → length (cond (not a) (x ∷ but q xs) (but q xs)) ≡ suc (length xs)
    go later true k = absurd cc
    go later false k = ap suc (later k)

-- without one page it is at most one shorter
but_one : (q : Page) (xs : List Page) → NoneTwice xs → length xs ≤ suc (length (but q xs))
but_one q [] h = omega arith
but_one q (x ∷ xs) h = go (but_one q xs h.1) (same_page q x) refl
  where
    go : length xs ≤ suc (length (but q xs)) → (a : Bool) → same_page q x ≡ a → suc (length xs) ≤ suc (length (cond (not a) (x ∷ but q xs) (but q xs)))
    go later true e =
        let none : is_among q xs ≡ false = ap (λ (r : Page). is_among r xs) (same_page_is q x e) ∙ h.0 in
        let n = but_absent q xs none in
        omega arith
    go later false e = omega (arith, later)

-- where none stands twice, and all are among others, there are no more than those
no_more : (ys xs : List Page) → NoneTwice xs → ((q : Page) → is_among q xs ≡ true → is_among q ys ≡ true) → length xs ≤ length ys
no_more [] [] h k = omega arith
no_more [] (x ∷ xs) h k = absurd (let e = k x (among_first x xs) in cc)
no_more (y ∷ ys) xs h k =
    let left : (q : Page) → is_among q (but y xs) ≡ true → is_among q ys ≡ true = λ q here.
    go q (same_page q y) refl here (k q (filtered_among (λ other. not (same_page y other)) q xs here).0) in
    let n = but_one y xs h in
    let m = no_more ys (but y xs) (none_filtered (λ other. not (same_page y other)) xs h) left in
    omega arith
  where
    go : (q : Page) → (a : Bool) → same_page q y ≡ a → is_among q (but y xs) ≡ true → (a || is_among q ys) ≡ true → is_among q ys ≡ true
    go q true e here l =
        let other = (filtered_among (λ other. not (same_page y other)) q xs here).1 in
        let self = ap (λ (r : Page). not (same_page y r)) (same_page_is q y e) ∙ ap not (same_page_self y) in
        absurd cc
    go q false e here l = l

pub few_distinct : (xs ys : List Page) → ((q : Page) → is_among q xs ≡ true → is_among q ys ≡ true) → length (distinct xs) ≤ length ys
few_distinct xs ys h = no_more ys (distinct xs) (none_distinct xs) (λ q k. h q (among_distinct q xs k))
