-- A page is found among others by its key.
use Rattle.std.proofs.Common.{◌≡◌, ℕ, ◌+◌, Bool, true, false, not, cond, if◌then◌else◌, ◌||◌, ◌&&◌, ◌==◌, map, List, [], ◌∷◌, ◌++◌, refl, sym, ap, ◌∙◌, arith}
use Rattle.std.specs.List.{position_or_len, list_any}
use Rattle.std.proofs.lemmas.List.{map-append}
use Rattle.vm_facts.specs.declared.page.Page.{Page}
use Rattle.vm_facts.specs.declared.page.Page.TheVariants.{Data, Stack, Text}
use Rattle.flat_state.specs.PageNames.{same_page, is_among}
use Rattle.flat_state.proofs.PageNames.{same_page_self}
use Rattle.reference_answers.specs.Keys.{key_of, with_page}
use Rattle.reference_answers.specs.Numbers.{number_from}

-- two keys are one
abbrev pub same_key : ℕ × ℕ × ℕ → ℕ × ℕ × ℕ → Bool
same_key j k = (j.0 == k.0 && j.1 == k.1) && j.2 == k.2

same_keys : (p q : Page) → same_key (key_of p) (key_of q) ≡ same_page p q
same_keys (Data a v) (Data b w) = refl
same_keys (Data a v) (Stack b w) = refl
same_keys (Data a v) (Text b w) = refl
same_keys (Stack a v) (Data b w) = refl
same_keys (Stack a v) (Stack b w) = refl
same_keys (Stack a v) (Text b w) = refl
same_keys (Text a v) (Data b w) = refl
same_keys (Text a v) (Stack b w) = refl
same_keys (Text a v) (Text b w) = refl

-- a page is among others where its key is among theirs
pub key_among : (p : Page) (pages : List Page) → list_any (same_key (key_of p)) (map key_of pages) ≡ is_among p pages
key_among p [] = refl
key_among p (q ∷ pages) = ap (λ b. b || list_any (same_key (key_of p)) (map key_of pages)) (same_keys p q) ∙ ap (λ b. same_page p q || b) (key_among p pages)

key_place : (p : Page) (pages : List Page) → position_or_len (same_key (key_of p)) (map key_of pages) ≡ position_or_len (same_page p) pages
key_place p [] = refl
key_place p (q ∷ pages) =
    ap (λ b. cond (not b) (1 + position_or_len (same_key (key_of p)) (map key_of pages)) 0) (same_keys p q)
    ∙ ap (λ n. cond (not (same_page p q)) (1 + n) 0) (key_place p pages)

-- the keys of pages and of one more
pub key_joins : (p : Page) (pages : List Page)
    → (if list_any (same_key (key_of p)) (map key_of pages) then map key_of pages else map key_of pages ++ key_of p ∷ []) ≡ map key_of (with_page pages p)
unfolding with_page
key_joins p pages = ap (λ b. if b then map key_of pages else map key_of pages ++ key_of p ∷ []) (key_among p pages) ∙ by (is_among p pages)
  where
    by : (b : Bool) → (if b then map key_of pages else map key_of pages ++ key_of p ∷ []) ≡ map key_of (if b then pages else pages ++ p ∷ [])
    by true = refl
    by false = sym (map-append key_of pages (p ∷ []))

place_last : (p : Page) (pages : List Page) → same_page p p ≡ true → position_or_len (same_page p) (pages ++ p ∷ []) ≡ position_or_len (same_page p) pages
place_last p [] e = ap (λ b. cond (not b) (1 + 0) 0) e
place_last p (q ∷ pages) e = ap (λ n. cond (not (same_page p q)) (1 + n) 0) (place_last p pages e)

-- a page's number is one more than the place of its key
pub key_number : (p : Page) (pages : List Page) → 1 + position_or_len (same_key (key_of p)) (map key_of pages) ≡ number_from 1 (with_page pages p) p
unfolding with_page number_from
key_number p pages = ap (λ n. 1 + n) (key_place p pages ∙ sym (by (is_among p pages)))
  where
    by : (b : Bool) → position_or_len (same_page p) (if b then pages else pages ++ p ∷ []) ≡ position_or_len (same_page p) pages
    by true = refl
    by false = place_last p pages (same_page_self p)

-- what a look-up by key makes of the pages
pub is_joined : (keys : List (ℕ × ℕ × ℕ)) (key : ℕ × ℕ × ℕ) (pages : List Page) (p : Page) (new : Bool)
    → keys ≡ map key_of pages → key ≡ key_of p → new ≡ not (list_any (same_key key) keys) → (if new then pages ++ p ∷ [] else pages) ≡ with_page pages p
unfolding with_page
is_joined keys key pages p new ks k e =
    ap (λ b. if b then pages ++ p ∷ [] else pages) (e ∙ ap (λ j. not (list_any (same_key j) keys)) k ∙ ap (λ js. not (list_any (same_key (key_of p)) js)) ks ∙ ap not (key_among p pages))
    ∙ by (is_among p pages)
  where
    by : (b : Bool) → (if not b then pages ++ p ∷ [] else pages) ≡ (if b then pages else pages ++ p ∷ [])
    by true = refl
    by false = refl

pub number_is : (keys : List (ℕ × ℕ × ℕ)) (key : ℕ × ℕ × ℕ) (pages after : List Page) (p : Page) (place : ℕ)
    → keys ≡ map key_of pages → key ≡ key_of p → place ≡ position_or_len (same_key key) keys → after ≡ with_page pages p → place + 1 ≡ number_from 1 after p
number_is keys key pages after p place ks k e joined =
    let found : place ≡ position_or_len (same_key (key_of p)) (map key_of pages) = e ∙ ap (λ j. position_or_len (same_key j) keys) k ∙ ap (position_or_len (same_key (key_of p))) ks in
    let number = key_number p pages in
    let next : place + 1 ≡ number_from 1 (with_page pages p) p = omega arith in
    next ∙ ap (λ ps. number_from 1 ps p) (sym joined)
