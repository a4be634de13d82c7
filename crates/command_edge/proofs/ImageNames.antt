-- The names in words: each once, and its number.
use Rattle.std.proofs.Common.{◌≡◌, ◌≢◌, ℕ, ◌+◌, ◌<◌, Bool, true, false, ◌||◌, not, if◌then◌else◌, List, [], ◌∷◌, ◌++◌, length, map, take, get_or, Option, bytes_eq, Bor, refl, sym, ap, ◌∙◌, arith}
use Rattle.std.specs.Prelude.{◌==◌, position}
use Rattle.std.specs.List.{list_any, filter, filter_map, position_or_len, cons_option}
use Rattle.std.specs.Option.{option_map}
use Rattle.std.proofs.lemmas.Bool.Decides.{nat_tests}
use Rattle.std.proofs.lemmas.List.{length-map, map-append, append-nil, take_more}
use Rattle.std.proofs.lemmas.Slice.Eq.{bytes_eq-Decides}
use Rattle.std.proofs.lemmas.List.Elements.{filter-append, filter_map-append}
use Rattle.command_edge.specs.ImageWords.{name_in, distinct, image_names, number_of, number_started, first_images}

-- a word without the sign is its own name
pub plain_name : (word : List ℕ) → ((rest : List ℕ) → word ≢ 61 ∷ rest) → word ≡ name_in word
plain_name [] plain = refl
plain_name (b ∷ bs) plain = go (b == 61) refl
  where
    go : (t : Bool) → (b == 61) ≡ t → (b ∷ bs) ≡ (if not (b == 61) then (b ∷ bs) else bs)
    go true e = absurd (plain bs (let is : b ≡ 61 = grind (arith, nat_tests) in ap (λ (x : ℕ). x ∷ bs) is))
    go false e = rw e refl

-- tests of what a list maps to
any_map : {X Y : Type 0} (f : X → Y) (test : Y → Bool) (xs : List X) → list_any test (map f xs) ≡ list_any (λ x. test (f x)) xs
any_map f test [] = refl
any_map f test (x ∷ xs) = ap (λ (b : Bool). test (f x) || b) (any_map f test xs)

place_map : {X Y : Type 0} (f : X → Y) (test : Y → Bool) (xs : List X) → position_or_len test (map f xs) ≡ position_or_len (λ x. test (f x)) xs
place_map f test [] = refl
place_map f test (x ∷ xs) = ap (λ (n : ℕ). if not (test (f x)) then 1 + n else 0) (place_map f test xs)

place_of_map : {X Y : Type 0} (f : X → Y) (test : Y → Bool) (xs : List X) → position test (map f xs) ≡ position (λ x. test (f x)) xs
place_of_map f test xs = rw (place_map f test xs, length-map xs f) refl

-- the number that a place gives
pub numbered : (names : List (Bor (List ℕ))) (name : List ℕ) (place : Option ℕ) → place ≡ position (λ (other : Bor (List ℕ)). bytes_eq other.now name) names
    → option_map (λ (n : ℕ). n + 1) place ≡ number_of (map (λ (other : Bor (List ℕ)). other.now) names) name
numbered names name place is = ap (λ (o : Option ℕ). option_map (λ (n : ℕ). n + 1) o) (is ∙ sym (place_of_map (λ (other : Bor (List ℕ)). other.now) (λ (other : List ℕ). bytes_eq other name) names))

-- the words so far, and the next one
words_more : (words : List (Bor (List ℕ))) (i : ℕ) (d : Bor (List ℕ)) → i < length words
    → map (λ (word : Bor (List ℕ)). word.now) (take (i + 1) words) ≡ map (λ (word : Bor (List ℕ)). word.now) (take i words) ++ (get_or words i d).now ∷ []
words_more words i d below =
    ap (λ (xs : List (Bor (List ℕ))). map (λ (word : Bor (List ℕ)). word.now) xs) (take_more words i d below)
    ∙ map-append (λ (word : Bor (List ℕ)). word.now) (take i words) (get_or words i d ∷ [])

-- a name among others
pub unlike : (a b : List ℕ) → bytes_eq a b ≡ false → bytes_eq b a ≡ false
unlike a b differs = go (bytes_eq b a) refl
  where
    go : (t : Bool) → bytes_eq b a ≡ t → bytes_eq b a ≡ false
    go false e = e
    go true e = absurd (let yes = (bytes_eq-Decides a b).1 (sym ((bytes_eq-Decides b a).0 e)) in let never : true ≡ false = sym yes ∙ differs in cc)

-- leaving out another name leaves this one
others_step : (first name x : List ℕ) (others : List (List ℕ)) (like : Bool) → bytes_eq x first ≡ like → bytes_eq first name ≡ false
    → list_any (λ other. bytes_eq other name) (if not like then x ∷ others else others) ≡ (bytes_eq x name || list_any (λ other. bytes_eq other name) others)
others_step first name x others false e differs = refl
others_step first name x others true e differs = rw (ap (λ (y : List ℕ). bytes_eq y name) ((bytes_eq-Decides x first).0 e) ∙ differs) refl

among_others : (first name : List ℕ) (names : List (List ℕ)) → bytes_eq first name ≡ false
    → list_any (λ other. bytes_eq other name) (filter (λ other. not (bytes_eq other first)) names) ≡ list_any (λ other. bytes_eq other name) names
among_others first name [] differs = refl
among_others first name (x ∷ xs) differs =
    others_step first name x (filter (λ other. not (bytes_eq other first)) xs) (bytes_eq x first) refl differs
    ∙ ap (λ (b : Bool). bytes_eq x name || b) (among_others first name xs differs)

-- one more name
abbrev distinct_with : Bool → List (List ℕ) → List ℕ → List (List ℕ)
distinct_with there names name = if there then names else names ++ name ∷ []

distinct_step : (first name : List ℕ) (names : List (List ℕ)) (like there : Bool) → bytes_eq first name ≡ like
    → list_any (λ other. bytes_eq other name) names ≡ there
    → first ∷ filter (λ other. not (bytes_eq other first)) (distinct_with there names name)
    ≡ distinct_with (like || list_any (λ other. bytes_eq other name) (filter (λ other. not (bytes_eq other first)) names))
    (first ∷ filter (λ other. not (bytes_eq other first)) names) name
distinct_step first name names true true e has = refl
distinct_step first name names true false e has =
    let same : bytes_eq name first ≡ true = (bytes_eq-Decides name first).1 (sym ((bytes_eq-Decides first name).0 e)) in
    ap (λ (xs : List (List ℕ)). first ∷ xs)
    (filter-append (λ (other : List ℕ). not (bytes_eq other first)) names (name ∷ []) ∙ rw same (append-nil (filter (λ other. not (bytes_eq other first)) names)))
distinct_step first name names false true e has = rw (among_others first name names e, has) refl
distinct_step first name names false false e has =
    rw (among_others first name names e, has)
    (ap (λ (xs : List (List ℕ)). first ∷ xs) (filter-append (λ (other : List ℕ). not (bytes_eq other first)) names (name ∷ []) ∙ rw (unlike first name e) refl))

distinct_more : (names : List (List ℕ)) (name : List ℕ)
    → distinct (names ++ name ∷ []) ≡ distinct_with (list_any (λ other. bytes_eq other name) (distinct names)) (distinct names) name
distinct_more [] name = refl
distinct_more (first ∷ names) name =
    ap (λ (xs : List (List ℕ)). first ∷ filter (λ other. not (bytes_eq other first)) xs) (distinct_more names name)
    ∙ distinct_step first name (distinct names) (bytes_eq first name) (list_any (λ other. bytes_eq other name) (distinct names)) refl refl

-- the names of the words so far, and of one more
pub names_grow : (names names' words : List (Bor (List ℕ))) (i : ℕ) (d name : Bor (List ℕ)) (there : Bool) → i < length words
    → name.now ≡ name_in (get_or words i d).now
    → there ≡ list_any (λ (other : Bor (List ℕ)). bytes_eq other.now name.now) names → names' ≡ (if there then names else names ++ name ∷ [])
    → map (λ (other : Bor (List ℕ)). other.now) names ≡ image_names (map (λ (word : Bor (List ℕ)). word.now) (take i words))
    → map (λ (other : Bor (List ℕ)). other.now) names' ≡ image_names (map (λ (word : Bor (List ℕ)). word.now) (take (i + 1) words))
unfolding image_names
names_grow names names' words i d name there below is has grown so_far =
    let now : Bor (List ℕ) → List ℕ = λ (word : Bor (List ℕ)). word.now in
    let before = map now (take i words) in
    let next = (get_or words i d).now in
    let whole : distinct (map name_in (map now (take (i + 1) words))) ≡ distinct (map name_in before ++ name.now ∷ [])
    = ap (λ (xs : List (List ℕ)). distinct (map name_in xs)) (words_more words i d below)
    ∙ ap distinct (map-append name_in before (next ∷ []) ∙ ap (λ (x : List ℕ). map name_in before ++ x ∷ []) (sym is)) in
    let tested : list_any (λ other. bytes_eq other name.now) (distinct (map name_in before)) ≡ there
    = ap (list_any (λ other. bytes_eq other name.now)) (sym so_far) ∙ any_map now (λ other. bytes_eq other name.now) names ∙ sym has in
    let grows : (t : Bool) → map now (if t then names else names ++ name ∷ []) ≡ distinct_with t (map now names) name.now
    = λ t. added t in
    ap (map now) grown ∙ grows there ∙ ap (λ (xs : List (List ℕ)). distinct_with there xs name.now) so_far
    ∙ sym (whole ∙ distinct_more (map name_in before) name.now ∙ ap (λ (t : Bool). distinct_with t (distinct (map name_in before)) name.now) tested)
  where
    added : (t : Bool) → map (λ (word : Bor (List ℕ)). word.now) (if t then names else names ++ name ∷ []) ≡ distinct_with t (map (λ (word : Bor (List ℕ)). word.now) names) name.now
    added true = refl
    added false = map-append (λ (word : Bor (List ℕ)). word.now) names (name ∷ [])

-- the numbers of the words so far, and of one more
pub first_grow : (first first' : List ℕ) (names : List (List ℕ)) (words : List (Bor (List ℕ))) (i : ℕ) (d : Bor (List ℕ)) → i < length words
    → first' ≡ first ++ cons_option (number_started names (get_or words i d).now) []
    → first ≡ first_images names (map (λ (word : Bor (List ℕ)). word.now) (take i words))
    → first' ≡ first_images names (map (λ (word : Bor (List ℕ)). word.now) (take (i + 1) words))
unfolding first_images
first_grow first first' names words i d below grown so_far =
    let now : Bor (List ℕ) → List ℕ = λ (word : Bor (List ℕ)). word.now in
    grown ∙ ap (λ (xs : List ℕ). xs ++ cons_option (number_started names (get_or words i d).now) []) so_far
    ∙ sym (ap (filter_map (number_started names)) (words_more words i d below) ∙ filter_map-append (number_started names) (map now (take i words)) ((get_or words i d).now ∷ []))
