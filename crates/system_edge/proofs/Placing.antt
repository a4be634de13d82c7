-- What is answered of a name, and read of its file, by what its place has.
use Rattle.std.specs.Prelude.{◌≡◌, ◌<◌, ◌≤◌, ◌+◌, ◌-◌, ℕ, List, [], length, take, drop, position, bytes_eq, get_or, min, Option, Some, None}
use Rattle.std.proofs.Common.{◌∙◌, sym, subst, ap, refl, arith}
use Rattle.std.proofs.lemmas.List.{length-map, length-take, drop-take, take-take}
use Rattle.std.proofs.lemmas.Option.{same_Some}
use Rattle.io_edge.specs.FileHolding.{NamedFile, place_of, bytes_at, AnswersName, AnswersIn, HasRange, HoldsRange, file_range}
use Rattle.io_edge.specs.declared.Found.{Found}
use Rattle.io_edge.specs.declared.Found.TheVariants as found
use Rattle.system_calls.specs.Bytes.{HoldsBytes}
use Rattle.system_calls.specs.declared.system.SystemFile.{Ghosts as FileGhosts}
use Rattle.system_edge.specs.declared.place.Place.{Place}
use Rattle.system_edge.specs.declared.place.Place.TheVariants.{Unsought, Missing, Plain, Held}
use Rattle.system_edge.specs.Named.{most_seen, seen_at, seen_files, seen_told}
use Rattle.system_edge.specs.Places.{FitsAt, FitsName, known_at, HoldsPlace}
use Rattle.system_edge.specs.PlaceLaws.{name_at}
use Rattle.system_edge.proofs.Seen.{seen_there, seen_nowhere, seen_bytes}

-- a range that ends within the first bytes is the same of all
range_within : (bytes : List ℕ) (most offset count : ℕ) → offset + count ≤ length (take most bytes)
    → file_range bytes offset count ≡ file_range (take most bytes) offset count
range_within bytes most offset count within =
    let long = length-take most bytes in
    let most_is : offset + (most - offset) ≡ most = omega (arith, within, long) in
    let shorter : count ≤ most - offset = omega (arith, within, long) in
    sym (
    ap (λ (n : ℕ). take count (drop offset (take n bytes))) (sym most_is)
    ∙ ap (λ (xs : List ℕ). take count xs) (drop-take offset (most - offset) bytes)
    ∙ take-take count (most - offset) (drop offset bytes) shorter
    )

module _ {F : Type 0} (g : FileGhosts F) (names : List (List ℕ)) where
  -- under the number of a name
  bytes_under : (folder : List NamedFile) (name : List ℕ) (number at : ℕ) → position (λ other. bytes_eq other name) names ≡ Some number
      → place_of folder name ≡ Some at → bytes_at (seen_files folder names) number ≡ take most_seen (bytes_at folder at)
  bytes_under folder name number at stands there =
      let found = name_at names name number stands in
      seen_bytes folder names number at found.0 (subst (λ (sought : List ℕ). place_of folder sought ≡ Some at) (sym found.1) there)

  -- the answer of a place that has a file
  file_answers : (folder : List NamedFile) (name : List ℕ) (number at : ℕ) (place : Place F) (answer : Found)
      → position (λ other. bytes_eq other name) names ≡ Some number → place_of folder name ≡ Some at → FitsAt g folder (Some at) place
      → known_at number place ≡ Some answer → AnswersIn (seen_files folder names) name answer
  file_answers folder name number at Unsought answer stands there fits known = cc
  file_answers folder name number at Missing answer stands there fits known = cc
  file_answers folder name number at (Plain file facts) answer stands there fits known =
      subst (λ (told : Found). AnswersIn (seen_files folder names) name told) (same_Some (found.Is number (min facts.len most_seen)) answer known) (
        seen_there folder names name number at stands there,
        (let bytes = ap (λ (xs : List ℕ). length xs) (bytes_under folder name number at stands there) in
            let long = fits.1 in omega (arith, long, bytes, length-take most_seen (bytes_at folder at))),
      )
  file_answers folder name number at (Held held) answer stands there fits known =
      subst (λ (told : Found). AnswersIn (seen_files folder names) name told) (same_Some (found.Is number (length held.items)) answer known) (
        seen_there folder names name number at stands there,
        ap (λ (xs : List ℕ). length xs) fits ∙ sym (ap (λ (xs : List ℕ). length xs) (bytes_under folder name number at stands there)),
      )

  -- the answer of a place where there is nothing
  none_answers : (folder : List NamedFile) (name : List ℕ) (number : ℕ) (place : Place F) (answer : Found)
      → position (λ other. bytes_eq other name) names ≡ Some number → place_of folder name ≡ None → FitsAt g folder None place
      → known_at number place ≡ Some answer → AnswersIn (seen_files folder names) name answer
  none_answers folder name number Unsought answer stands lacks fits known = cc
  none_answers folder name number Missing answer stands lacks fits known =
      subst (λ (told : Found). AnswersIn (seen_files folder names) name told) (same_Some found.Absent answer known) (seen_nowhere folder names name number stands lacks)
  none_answers folder name number (Plain file facts) answer stands lacks fits known = absurd fits
  none_answers folder name number (Held held) answer stands lacks fits known = absurd fits

  pub place_answers : (folder : Option (List NamedFile)) (name : List ℕ) (number : ℕ) (place : Place F) (answer : Found)
      → position (λ other. bytes_eq other name) names ≡ Some number → FitsName g folder name place → known_at number place ≡ Some answer
      → AnswersName (seen_told folder names) name answer
  place_answers None name number place answer stands fits known = tt
  place_answers (Some folder) name number place answer stands fits known = go (place_of folder name) refl where
    go : (o : Option ℕ) → place_of folder name ≡ o → AnswersIn (seen_files folder names) name answer
    go None is = none_answers folder name number place answer stands is (subst (λ (at : Option ℕ). FitsAt g folder at place) is fits) known
    go (Some at) is = file_answers folder name number at place answer stands is (subst (λ (at : Option ℕ). FitsAt g folder at place) is fits) known

  -- the bytes of a place that has a file
  file_holds : (folder : List NamedFile) (number at offset : ℕ) (place : Place F) (got : List ℕ) → number < length names
      → place_of folder (get_or names number []) ≡ Some at → FitsAt g folder (Some at) place
      → offset + length got ≤ length (bytes_at (seen_files folder names) number) → HoldsPlace g place offset got
      → got ≡ file_range (bytes_at (seen_files folder names) number) offset (length got)
  file_holds folder number at offset Unsought got within there fits range holds = absurd holds
  file_holds folder number at offset Missing got within there fits range holds = absurd holds
  file_holds folder number at offset (Plain file facts) got within there fits range holds =
      let bytes = seen_bytes folder names number at within there in
      let read = subst (λ (told : Option (List ℕ)). HoldsBytes told offset got) fits.0 holds in
      read
      ∙ range_within (bytes_at folder at) most_seen offset (length got) (subst (λ (xs : List ℕ). offset + length got ≤ length xs) bytes range)
      ∙ ap (λ (xs : List ℕ). file_range xs offset (length got)) (sym bytes)
  file_holds folder number at offset (Held held) got within there fits range holds =
      holds ∙ ap (λ (xs : List ℕ). file_range xs offset (length got)) (fits ∙ sym (seen_bytes folder names number at within there))

  -- where there is nothing, no bytes are read
  none_holds : (folder : List NamedFile) (place : Place F) (offset : ℕ) (got : List ℕ) → FitsAt g folder None place → HoldsPlace g place offset got → ⊥
  none_holds folder Unsought offset got fits holds = holds
  none_holds folder Missing offset got fits holds = holds
  none_holds folder (Plain file facts) offset got fits holds = fits
  none_holds folder (Held held) offset got fits holds = fits

  pub place_holds : (folder : Option (List NamedFile)) (number offset : ℕ) (place : Place F) (got : List ℕ)
      → FitsName g folder (get_or names number []) place → HasRange (seen_told folder names) number offset (length got) → HoldsPlace g place offset got
      → HoldsRange (seen_told folder names) number offset got
  place_holds None number offset place got fits range holds = tt
  place_holds (Some folder) number offset place got fits range holds = go (place_of folder (get_or names number [])) refl where
    within : number < length names
    within = (let long = length-map names (λ (name : List ℕ). seen_at folder names name (place_of folder name)) in omega (arith, range.0, long))

    go : (o : Option ℕ) → place_of folder (get_or names number []) ≡ o → got ≡ file_range (bytes_at (seen_files folder names) number) offset (length got)
    go None is = absurd (none_holds folder place offset got (subst (λ (at : Option ℕ). FitsAt g folder at place) is fits) holds)
    go (Some at) is = file_holds folder number at offset place got within is (subst (λ (at : Option ℕ). FitsAt g folder at place) is fits) range.1 holds
