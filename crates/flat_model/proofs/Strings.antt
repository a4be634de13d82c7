-- The strings of arguments, their pointers, and the area that holds them.
use Rattle.std.proofs.Common.{◌≡◌, ℕ, ◌+◌, ◌-◌, ◌*◌, ◌<◌, ◌≤◌, List, [], ◌∷◌, ◌++◌, length, drop, replicate, get_or, All, refl, sym, ap, ◌∙◌, append_assoc, arith}
use Rattle.std.proofs.lemmas.List.{drop_more, length-append, length-replicate}
use Rattle.std.proofs.lemmas.List.Elements.{All-tail, recursion_from_All}
use Rattle.flat_state.specs.AoutImageImageSpecs.{word_bytes}
use Rattle.flat_state.specs.Flat.{strings_of, in_longwords, string_area, strings_at, pointers_from, argument_area}
use Rattle.flat_model.specs.Arguments.{AreArguments}

-- an item and what is left
pub item_more : {X : Type 0} (xs : List X) (i : ℕ) (x : X) → i < length xs → x ≡ get_or xs i x → drop i xs ≡ x ∷ drop (i + 1) xs
item_more xs i x below e = drop_more xs i x below ∙ ap (λ y. y ∷ drop (i + 1) xs) (sym e)

pub strings_count : (x : List ℕ) (rest : List (List ℕ)) → length (strings_of (x ∷ rest)) ≡ length x + 1 + length (strings_of rest)
strings_count x rest =
    length-append (x ++ 0 ∷ []) (strings_of rest) ∙ ap (λ (n : ℕ). n + length (strings_of rest)) (length-append x (0 ∷ []))

pub strings_short : (xs : List (List ℕ)) → All (λ (x : List ℕ). length x < 64) xs → length (strings_of xs) ≤ 64 * length xs
strings_short [] h = omega arith
strings_short (x ∷ xs) h =
    let more = strings_short xs (All-tail (λ (y : List ℕ). length y < 64) x xs h) in
    let first : length x < 64 = (recursion_from_All (λ (y : List ℕ). length y < 64) (x ∷ xs) h).0 in
    let count = strings_count x xs in
    omega arith

pub pointers_count : (address : ℕ) (xs : List (List ℕ)) → length (pointers_from address xs) ≡ 4 * length xs
pointers_count address [] = refl
pointers_count address (x ∷ xs) =
    length-append (word_bytes address) (pointers_from (address + length x + 1) xs)
    ∙ (let more = pointers_count (address + length x + 1) xs in omega arith)

-- the area's bytes, counted
pub area_count : (arguments : List (List ℕ)) → length (argument_area arguments) ≡ 16 + 4 * length arguments + in_longwords (length (strings_of arguments))
unfolding argument_area
area_count arguments =
    let n = word_bytes (length arguments) in
    let p = pointers_from (strings_at arguments) arguments in
    let a : length (n ++ p ++ word_bytes 0 ++ word_bytes 0 ++ string_area arguments ++ word_bytes 0) ≡ length (n ++ p ++ word_bytes 0 ++ word_bytes 0 ++ string_area arguments) + 4 =
    length-append (n ++ p ++ word_bytes 0 ++ word_bytes 0 ++ string_area arguments) (word_bytes 0) in
    let b : length (n ++ p ++ word_bytes 0 ++ word_bytes 0 ++ string_area arguments) ≡ length (n ++ p ++ word_bytes 0 ++ word_bytes 0) + length (string_area arguments) =
    length-append (n ++ p ++ word_bytes 0 ++ word_bytes 0) (string_area arguments) in
    let c : length (n ++ p ++ word_bytes 0 ++ word_bytes 0) ≡ length (n ++ p ++ word_bytes 0) + 4 = length-append (n ++ p ++ word_bytes 0) (word_bytes 0) in
    let d : length (n ++ p ++ word_bytes 0) ≡ length (n ++ p) + 4 = length-append (n ++ p) (word_bytes 0) in
    let e : length (n ++ p) ≡ 4 + length p = length-append n p in
    let f : length p ≡ 4 * length arguments = pointers_count (strings_at arguments) arguments in
    let g : length (string_area arguments) ≡ length (strings_of arguments) + (in_longwords (length (strings_of arguments)) - length (strings_of arguments)) =
    length-append (strings_of arguments) (replicate (in_longwords (length (strings_of arguments)) - length (strings_of arguments)) 0)
    ∙ ap (λ (k : ℕ). length (strings_of arguments) + k) (length-replicate (in_longwords (length (strings_of arguments)) - length (strings_of arguments)) 0) in
    omega (arith, a, b, c, d, e, f, g)

-- a page has room for the strings
pub area_short : (arguments : List (List ℕ)) → AreArguments arguments → length (strings_of arguments) ≤ 512
area_short arguments h = let short = strings_short arguments h.short in omega (arith, h.few)

pub area_parts : (page : List ℕ) (arguments : List (List ℕ)) →
    page ++ word_bytes (length arguments) ++ pointers_from (strings_at arguments) arguments ++ word_bytes 0 ++ word_bytes 0 ++ strings_of arguments
    ++ replicate (in_longwords (length (strings_of arguments)) - length (strings_of arguments)) 0 ++ word_bytes 0
    ≡ page ++ argument_area arguments
unfolding argument_area
area_parts page arguments = appends page (word_bytes (length arguments)) (pointers_from (strings_at arguments) arguments) (word_bytes 0) (word_bytes 0) (strings_of arguments)
    (replicate (in_longwords (length (strings_of arguments)) - length (strings_of arguments)) 0) (word_bytes 0)
  where
    appends : (p a b c d e f g : List ℕ) → ((((((p ++ a) ++ b) ++ c) ++ d) ++ e) ++ f) ++ g ≡ p ++ (((((a ++ b) ++ c) ++ d) ++ (e ++ f)) ++ g)
    appends p a b c d e f g =
        ap (λ (x : List ℕ). ((((x ++ c) ++ d) ++ e) ++ f) ++ g) (append_assoc p a b)
        ∙ ap (λ (x : List ℕ). (((x ++ d) ++ e) ++ f) ++ g) (append_assoc p (a ++ b) c)
        ∙ ap (λ (x : List ℕ). ((x ++ e) ++ f) ++ g) (append_assoc p ((a ++ b) ++ c) d)
        ∙ ap (λ (x : List ℕ). x ++ g) (append_assoc (p ++ (((a ++ b) ++ c) ++ d)) e f)
        ∙ ap (λ (x : List ℕ). x ++ g) (append_assoc p (((a ++ b) ++ c) ++ d) (e ++ f))
        ∙ append_assoc p ((((a ++ b) ++ c) ++ d) ++ (e ++ f)) g
