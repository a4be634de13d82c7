-- The number of a name among words.
use Rattle.std.specs.Prelude.{◌≡◌, ◌≢◌, ◌<◌, ◌≤◌, ◌+◌, ◌==◌, ℕ, Bool, true, false, cond, not, List, [], ◌∷◌, ◌++◌, length, map, position, bytes_eq, IfSome, Option, Some, None}
use Rattle.std.specs.List.{position_or_len}
use Rattle.std.specs.Borrow.{Bor}
use Rattle.std.proofs.Common.{◌∙◌, sym, subst, ap, refl, arith, length-append}
use Rattle.std.proofs.lemmas.Bool.Decides.{nat_tests}
use Rattle.std.proofs.lemmas.Grind.{common_steps}
use Rattle.std.proofs.lemmas.List.{length-map}
use Rattle.io_edge.proofs.NamedFiles.{position-map}
use Rattle.system_edge.specs.Named.{name_in, names_of}

-- a word without the sign is its own name
pub plain_name : (word : List ℕ) → ((rest : List ℕ) → word ≢ 61 ∷ rest) → word ≡ name_in word
plain_name [] plain = refl
plain_name (b ∷ bs) plain = go (b == 61) refl where
  go : (t : Bool) → (b == 61) ≡ t → (b ∷ bs) ≡ cond (b == 61) bs (b ∷ bs)
  go true e = absurd (plain bs (let is : b ≡ 61 = grind (arith, nat_tests) in ap (λ (x : ℕ). x ∷ bs) is))
  go false e = rw e refl

module _ {X : Type 0} (p : X → Bool) where
  before_or_len : (xs ys : List X) → position_or_len p xs < length xs → position_or_len p (xs ++ ys) ≡ position_or_len p xs
  before_or_len [] ys within = absurd (omega (arith, within))
  before_or_len (x ∷ xs) ys within = go (p x) refl (before_or_len xs ys) where
    go : (t : Bool) → p x ≡ t → (position_or_len p xs < length xs → position_or_len p (xs ++ ys) ≡ position_or_len p xs)
        → cond (not (p x)) (1 + position_or_len p (xs ++ ys)) 0 ≡ cond (not (p x)) (1 + position_or_len p xs) 0
    go true e rest = subst (λ (t : Bool). cond (not t) (1 + position_or_len p (xs ++ ys)) 0 ≡ cond (not t) (1 + position_or_len p xs) 0) (sym e) refl
    go false e rest = (let below : position_or_len p xs < length xs =
        (let long = subst (λ (t : Bool). cond (not t) (1 + position_or_len p xs) 0 < length (x ∷ xs)) e within in omega (arith, long)) in
        ap (λ (n : ℕ). cond (not (p x)) (1 + n) 0) (rest below))

  behind_or_len : (xs ys : List X) → position_or_len p xs ≡ length xs → position_or_len p (xs ++ ys) ≡ length xs + position_or_len p ys
  behind_or_len [] ys none = omega arith
  behind_or_len (x ∷ xs) ys none = go (p x) refl (behind_or_len xs ys) where
    go : (t : Bool) → p x ≡ t → (position_or_len p xs ≡ length xs → position_or_len p (xs ++ ys) ≡ length xs + position_or_len p ys)
        → cond (not (p x)) (1 + position_or_len p (xs ++ ys)) 0 ≡ length (x ∷ xs) + position_or_len p ys
    go true e rest = (let long = subst (λ (t : Bool). cond (not t) (1 + position_or_len p xs) 0 ≡ length (x ∷ xs)) e none in absurd (omega (arith, long)))
    go false e rest = (let all : position_or_len p xs ≡ length xs =
        (let long = subst (λ (t : Bool). cond (not t) (1 + position_or_len p xs) 0 ≡ length (x ∷ xs)) e none in omega (arith, long)) in
        let later = rest all in
        subst (λ (t : Bool). cond (not t) (1 + position_or_len p (xs ++ ys)) 0 ≡ length (x ∷ xs) + position_or_len p ys) (sym e) (omega (arith, later)))

  or_len_below : (xs : List X) → position_or_len p xs ≤ length xs
  or_len_below [] = omega arith
  or_len_below (x ∷ xs) = go (p x) refl (or_len_below xs) where
    go : (t : Bool) → p x ≡ t → position_or_len p xs ≤ length xs → cond (not (p x)) (1 + position_or_len p xs) 0 ≤ length (x ∷ xs)
    go true e rest = subst (λ (t : Bool). cond (not t) (1 + position_or_len p xs) 0 ≤ length (x ∷ xs)) (sym e) (omega arith)
    go false e rest = subst (λ (t : Bool). cond (not t) (1 + position_or_len p xs) 0 ≤ length (x ∷ xs)) (sym e) (omega (arith, rest))

  -- the first that passes of two lists is that of the first list, if it has one
  pub first_of_two : (xs ys : List X) (at : ℕ) → position p xs ≡ Some at → position p (xs ++ ys) ≡ Some at
  first_of_two xs ys at stands =
      let is : position_or_len p xs ≡ at = grind (arith, common_steps) in
      let inside : at < length xs = grind (arith, common_steps) in
      let same = before_or_len xs ys (omega (arith, is, inside)) in
      let long = length-append xs ys in
      grind (arith, common_steps)

  -- and that of the second, if the first has none
  pub second_of_two : (xs ys : List X) (at : ℕ) → position p xs ≡ None → position p ys ≡ Some at → position p (xs ++ ys) ≡ Some (length xs + at)
  second_of_two xs ys at none stands =
      let below = or_len_below xs in
      let all : position_or_len p xs ≡ length xs = grind (arith, common_steps) in
      let is : position_or_len p ys ≡ at = grind (arith, common_steps) in
      let inside : at < length ys = grind (arith, common_steps) in
      let same = behind_or_len xs ys all in
      let long = length-append xs ys in
      grind (arith, common_steps)

-- a word itself
pub word_number : (words : List (Bor (List ℕ))) (name : List ℕ) (at : ℕ) → position (λ word. bytes_eq word.now name) words ≡ Some at
    → position (λ other. bytes_eq other name) (names_of (map (λ word. word.now) words)) ≡ Some at
word_number words name at stands =
    let own = map (λ (word : Bor (List ℕ)). word.now) words in
    first_of_two (λ other. bytes_eq other name) own (map name_in own) at
    (position-map (λ (other : List ℕ). bytes_eq other name) (λ (word : Bor (List ℕ)). word.now) words ∙ stands)

-- the name in a word, where it is no word itself
pub inner_number : (words : List (Bor (List ℕ))) (name : List ℕ) (at : ℕ) → position (λ word. bytes_eq word.now name) words ≡ None
    → position (λ word. bytes_eq (name_in word.now) name) words ≡ Some at
    → position (λ other. bytes_eq other name) (names_of (map (λ word. word.now) words)) ≡ Some (length words + at)
inner_number words name at none stands =
    let own = map (λ (word : Bor (List ℕ)). word.now) words in
    second_of_two (λ other. bytes_eq other name) own (map name_in own) at
    (position-map (λ (other : List ℕ). bytes_eq other name) (λ (word : Bor (List ℕ)). word.now) words ∙ none)
    (position-map (λ (other : List ℕ). bytes_eq other name) name_in own
    ∙ position-map (λ (other : List ℕ). bytes_eq (name_in other) name) (λ (word : Bor (List ℕ)). word.now) words ∙ stands)
    ∙ ap (λ (n : ℕ). Some (n + at)) (length-map words (λ (word : Bor (List ℕ)). word.now))

-- where there is a number it is the place
pub number_stands : (result : Option ℕ) (place : ℕ) (found : Option ℕ) → found ≡ Some place → IfSome result (λ number. number ≡ place)
    → IfSome result (λ number. found ≡ Some number)
number_stands None place found stands is = tt
number_stands (Some number) place found stands is = stands ∙ ap (λ (n : ℕ). Some n) (sym is)
