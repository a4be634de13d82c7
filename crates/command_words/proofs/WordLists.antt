-- Lists of words: those from a place on, those around an option, and those of images.
use Rattle.std.proofs.Common.{◌≡◌, ℕ, ◌+◌, ◌-◌, ◌<◌, ◌≤◌, ◌∙◌, Bool, true, false, ◌||◌, not, if◌then◌else◌, List, [], ◌∷◌, ◌++◌, take, drop, length, map, Bor, refl, sym, ap, inl, inr, cond, Some, None, arith}
use Rattle.std.specs.Prelude.{position, nat_le, nat_lt, All}
use Rattle.std.specs.List.{list_all, list_any, position_or_len}
use Rattle.std.proofs.Math.Seq.{drop-append-add}
use Rattle.std.proofs.lemmas.Bool.{and_parts, leb-true}
use Rattle.std.proofs.lemmas.Bool.Decides.{leb_tells, nat_tests}
use Rattle.std.proofs.lemmas.List.{append-nil, drop-append-le, drop-map, drop_all, map-append, take-map, take_all}
use Rattle.std.proofs.lemmas.List.Elements.{All-nil, All-cons}
use Rattle.std.proofs.lemmas.List.Folds.{list_all-append, list_all-map, list_any-append}
use Rattle.command_edge.specs.ImageWords.{IsShortName, starts, name_in}
use Rattle.command_words.specs.Command.{AreImageWords}
use Rattle.command_words.specs.Words.{has_up_to, is_name, is_image_word, is_trace, without_trace}

-- the bytes of words
abbrev bytes_of : List (Bor (List ℕ)) → List (List ℕ)
bytes_of words = map (λ (word : Bor (List ℕ)). word.now) words

-- a test of the bytes of words
pub some_word : (test : List ℕ → Bool) (words : List (Bor (List ℕ))) → list_any test (bytes_of words) ≡ list_any (λ (word : Bor (List ℕ)). test word.now) words
some_word test [] = refl
some_word test (word ∷ words) = ap (λ (b : Bool). test word.now || b) (some_word test words)

module _ (test : List ℕ → Bool) (before after : List (Bor (List ℕ))) where
  -- where each word of a first part passes a test, those of a second decide whether all do
  pub all_then : list_all (λ (word : Bor (List ℕ)). test word.now) before ≡ true
      → list_all (λ (word : Bor (List ℕ)). test word.now) after ≡ list_all test (bytes_of (before ++ after))
  all_then all = rw (list_all-map, list_all-append, all) refl

  -- and else not all do
  pub all_else : list_all (λ (word : Bor (List ℕ)). test word.now) before ≡ false → false ≡ list_all test (bytes_of (before ++ after))
  all_else not_all = rw (list_all-map, list_all-append, not_all) refl

  -- where a word of a first part passes a test, one of all does
  pub some_then : list_any (λ (word : Bor (List ℕ)). test word.now) before ≡ true → true ≡ list_any test (bytes_of (before ++ after))
  some_then some = rw (some_word test (before ++ after), list_any-append, some) refl

  -- and else those of a second part decide
  pub some_else : list_any (λ (word : Bor (List ℕ)). test word.now) before ≡ false
      → list_any (λ (word : Bor (List ℕ)). test word.now) after ≡ list_any test (bytes_of (before ++ after))
  some_else none = rw (some_word test (before ++ after), list_any-append, none) refl

-- what follows a place of two lists is what follows it in each
pub drop_both : {X : Type 0} (xs ys : List X) (n : ℕ) → drop n xs ++ drop (n - length xs) ys ≡ drop n (xs ++ ys)
drop_both xs ys n = elim (leb_tells n (length xs)) [
  | inl (_, most) ↦
      let none : n - length xs ≡ 0 = omega (arith, most) in
      rw (none, drop-append-le n xs ys most) refl
  | inr (_, more) ↦
      let sum : n ≡ length xs + (n - length xs) = omega (arith, more) in
      rw (drop_all n xs (omega (arith, more))) (sym (ap (λ (m : ℕ). drop m (xs ++ ys)) sum ∙ drop-append-add xs ys (n - length xs)))
]

-- the place of a word among their bytes
place_word : (test : List ℕ → Bool) (words : List (Bor (List ℕ)))
    → position_or_len test (bytes_of words) ≡ position_or_len (λ (word : Bor (List ℕ)). test word.now) words
place_word test [] = refl
place_word test (word ∷ words) = ap (λ (n : ℕ). if not (test word.now) then 1 + n else 0) (place_word test words)

-- the words around a place are those without the first `--trace`, where it is the place of that
around_place : (words : List (Bor (List ℕ))) (place : ℕ) → place ≡ position_or_len (λ (word : Bor (List ℕ)). is_trace word.now) words
    → bytes_of (take place words ++ drop (place + 1) words) ≡ without_trace (bytes_of words)
unfolding without_trace
around_place words place is =
    rw (place_word is_trace words, sym is, map-append (λ (word : Bor (List ℕ)). word.now) (take place words) (drop (place + 1) words), take-map, drop-map) refl

pub around_trace : (words : List (Bor (List ℕ))) (place : ℕ) → Some place ≡ position (λ (word : Bor (List ℕ)). is_trace word.now) words
    → bytes_of (take place words ++ drop (place + 1) words) ≡ without_trace (bytes_of words)
around_trace words place found = around_place words place (go (nat_lt (position_or_len (λ (word : Bor (List ℕ)). is_trace word.now) words) (length words)) found)
  where
    first : ℕ
    first = position_or_len (λ (word : Bor (List ℕ)). is_trace word.now) words

    go : (within : Bool) → Some place ≡ cond within (Some first) None → place ≡ first
    go true e = cc
    go false e = absurd cc

-- without one they are all
pub no_trace : (words : List (Bor (List ℕ))) → None ≡ position (λ (word : Bor (List ℕ)). is_trace word.now) words
    → bytes_of words ≡ without_trace (bytes_of words)
no_trace words none =
    let first : ℕ = position_or_len (λ (word : Bor (List ℕ)). is_trace word.now) words in
    let behind : length words ≤ first = past (nat_lt first (length words)) refl none in
    sym (ap bytes_of (rw (take_all first words behind, drop_all (first + 1) words (omega (arith, behind)), append-nil) refl)) ∙ around_place words first refl
  where
    past : (within : Bool) → nat_lt (position_or_len (λ (word : Bor (List ℕ)). is_trace word.now) words) (length words) ≡ within
        → None ≡ cond within (Some (position_or_len (λ (word : Bor (List ℕ)). is_trace word.now) words)) None
        → length words ≤ position_or_len (λ (word : Bor (List ℕ)). is_trace word.now) words
    past true e h = absurd cc
    past false e h = grind (arith, nat_tests)

-- a name has 1 to 63 bytes
short_name : (name : List ℕ) → is_name name ≡ true → IsShortName name
unfolding is_name has_up_to
short_name name good =
    let parts : (nat_le 1 (length name) ≡ true) × (nat_le (length name) 63 ≡ true) = and_parts _ _ good in
    let some : 1 ≤ length name = leb-true _ _ parts.0 in
    let few : length name ≤ 63 = leb-true _ _ parts.1 in
    (omega (arith, some), omega (arith, few))

short_names : (words : List (Bor (List ℕ))) → list_all is_image_word (bytes_of words) ≡ true
    → All (λ (word : Bor (List ℕ)). IsShortName (name_in word.now)) words
unfolding is_image_word
short_names [] all = All-nil (λ (word : Bor (List ℕ)). IsShortName (name_in word.now))
short_names (word ∷ words) all =
    let parts = and_parts (is_image_word word.now) (list_all is_image_word (bytes_of words)) all in
    All-cons (λ (word : Bor (List ℕ)). IsShortName (name_in word.now)) word words (short_name (name_in word.now) parts.0) (short_names words parts.1)

some_start : (words : List (Bor (List ℕ))) → list_any starts (bytes_of words) ≡ true → 0 < length words
some_start [] none = absurd cc
some_start (word ∷ words) some = omega arith

-- words that pass the tests are those of images
pub image_words : (words : List (Bor (List ℕ))) → length words ≤ 16 → list_all is_image_word (bytes_of words) ≡ true
    → list_any starts (bytes_of words) ≡ true → AreImageWords words
image_words words few all some = record { some = some_start words some; few = few; names = short_names words all; starting = some }
