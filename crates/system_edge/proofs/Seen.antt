-- The files that names name, as they are seen: each stands in the first place of its name, and of a name that the folder lacks there is none.
use Rattle.std.specs.Prelude.{◌≡◌, ◌<◌, ◌+◌, ℕ, zero, suc, Bool, true, false, cond, not, nat_lt, List, [], ◌∷◌, length, take, position, bytes_eq, get_or, Option, Some, None}
use Rattle.std.specs.List.{position_or_len}
use Rattle.std.proofs.Common.{◌∙◌, sym, subst, ap, refl, arith}
use Rattle.std.proofs.lemmas.Grind.{common_steps}
use Rattle.std.proofs.lemmas.List.{get_or-map}
use Rattle.std.proofs.lemmas.List.Quantifiers.{position-Some}
use Rattle.std.proofs.lemmas.Slice.Eq.{bytes_eq-Decides}
use Rattle.io_edge.specs.FileHolding.{NamedFile, place_of, bytes_at, no_file}
use Rattle.io_edge.proofs.NamedFiles.{position-map}
use Rattle.system_edge.specs.Named.{most_seen, longer_name, seen_at, seen_files}
use Rattle.system_edge.specs.PlaceLaws.{name_at}

-- a test that agrees with another at each place finds the same
agrees_or_len : {X : Type 0} (p q : X → Bool) (d : X) (xs : List X) → ((i : ℕ) → i < length xs → p (get_or xs i d) ≡ q (get_or xs i d))
    → position_or_len p xs ≡ position_or_len q xs
agrees_or_len p q d [] same = refl
agrees_or_len p q d (x ∷ xs) same =
    ap (λ (b : Bool). cond (not b) (1 + position_or_len p xs) 0) (same 0 (omega arith))
    ∙ ap (λ (n : ℕ). cond (not (q x)) (1 + n) 0) (agrees_or_len p q d xs (λ i within. same (suc i) (omega (arith, within))))

agrees : {X : Type 0} (p q : X → Bool) (d : X) (xs : List X) → ((i : ℕ) → i < length xs → p (get_or xs i d) ≡ q (get_or xs i d)) → position p xs ≡ position q xs
agrees p q d xs same = ap (λ (n : ℕ). cond (nat_lt n (length xs)) (Some n) None) (agrees_or_len p q d xs same)

-- a test that fails at each place finds nothing
fails : {X : Type 0} (p : X → Bool) (d : X) (xs : List X) → ((i : ℕ) → i < length xs → p (get_or xs i d) ≡ false) → position p xs ≡ None
fails p d xs never = go (position p xs) refl where
  go : (o : Option ℕ) → position p xs ≡ o → o ≡ None
  go None is = refl
  go (Some i) is = (let there = position-Some p xs i d is in let no = never i there.0 in absurd (cc (there.1, no)))

-- two lists of bytes that differ
differ : (a b : List ℕ) → (a ≡ b → ⊥) → bytes_eq a b ≡ false
differ a b apart = go (bytes_eq a b) refl where
  go : (r : Bool) → bytes_eq a b ≡ r → r ≡ false
  go false is = refl
  go true is = absurd (apart ((bytes_eq-Decides a b).0 is))

-- the longer name is longer than each
longer : (names : List (List ℕ)) (i : ℕ) → i < length names → length (get_or names i []) < length (longer_name names)
longer [] i within = absurd (omega (arith, within))
longer (name ∷ names) zero within = grind (arith, common_steps)
longer (name ∷ names) (suc i) within = (let below = longer names i (omega (arith, within)) in grind (arith, common_steps))

module _ (folder : List NamedFile) (names : List (List ℕ)) where
  abbrev view : List ℕ → NamedFile
  view name = seen_at folder names name (place_of folder name)

  -- a name that stands in the list isn't the longer one
  not_longer : (name : List ℕ) (number : ℕ) → position (λ other. bytes_eq other name) names ≡ Some number → longer_name names ≡ name → ⊥
  not_longer name number stands same =
      let at = name_at names name number stands in
      let below = longer names number at.0 in
      let one = ap (λ (xs : List ℕ). length xs) at.1 in
      let other = ap (λ (xs : List ℕ). length xs) same in omega (arith, below, one, other)

  -- what is seen of another name has the name exactly where that is it
  same_test : (name other : List ℕ) (number at : ℕ) → position (λ seen. bytes_eq seen name) names ≡ Some number → place_of folder name ≡ Some at
      → (o : Option ℕ) → place_of folder other ≡ o → bytes_eq (seen_at folder names other o).name name ≡ bytes_eq other name
  same_test name other number at stands there (Some place) is = refl
  same_test name other number at stands there None is =
      differ (longer_name names) name (not_longer name number stands)
      ∙ sym (differ other name (λ same. absurd (cc (subst (λ (sought : List ℕ). place_of folder sought ≡ None) same is, there))))

  -- a file of the folder stands in the first place of its name
  pub seen_there : (name : List ℕ) (number at : ℕ) → position (λ other. bytes_eq other name) names ≡ Some number → place_of folder name ≡ Some at
      → place_of (seen_files folder names) name ≡ Some number
  seen_there name number at stands there =
      position-map (λ (file : NamedFile). bytes_eq file.name name) view names
      ∙ agrees (λ other. bytes_eq (view other).name name) (λ other. bytes_eq other name) [] names
      (λ i within. same_test name (get_or names i []) number at stands there (place_of folder (get_or names i [])) refl)
      ∙ stands

  -- another name than one that the folder lacks
  other_test : (name other : List ℕ) (number : ℕ) → position (λ seen. bytes_eq seen name) names ≡ Some number → place_of folder name ≡ None
      → (o : Option ℕ) → place_of folder other ≡ o → bytes_eq (seen_at folder names other o).name name ≡ false
  other_test name other number stands lacks (Some place) is =
      differ other name (λ same. absurd (cc (subst (λ (sought : List ℕ). place_of folder sought ≡ Some place) same is, lacks)))
  other_test name other number stands lacks None is = differ (longer_name names) name (not_longer name number stands)

  -- of a name that the folder lacks there is no file
  pub seen_nowhere : (name : List ℕ) (number : ℕ) → position (λ other. bytes_eq other name) names ≡ Some number → place_of folder name ≡ None
      → place_of (seen_files folder names) name ≡ None
  seen_nowhere name number stands lacks =
      position-map (λ (file : NamedFile). bytes_eq file.name name) view names
      ∙ fails (λ other. bytes_eq (view other).name name) [] names
      (λ i within. other_test name (get_or names i []) number stands lacks (place_of folder (get_or names i [])) refl)

  -- the bytes that are seen of a file of the folder, under each number of its name
  pub seen_bytes : (number at : ℕ) → number < length names → place_of folder (get_or names number []) ≡ Some at
      → bytes_at (seen_files folder names) number ≡ take most_seen (bytes_at folder at)
  seen_bytes number at within there =
      ap (λ (file : NamedFile). file.bytes) (get_or-map view names number [] no_file within)
      ∙ ap (λ (place : Option ℕ). (seen_at folder names (get_or names number []) place).bytes) there
