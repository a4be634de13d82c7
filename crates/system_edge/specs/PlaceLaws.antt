-- What is known at places stays, and two names have two numbers.
use Rattle.std.specs.Prelude.{◌≡◌, ◌<◌, ℕ, List, [], length, map, position, bytes_eq, get_or, Option, Some, None}
use Rattle.std.specs.Borrow.{Bor}
use Rattle.std.proofs.Common.{◌∙◌, sym, subst, ap}
use Rattle.std.proofs.lemmas.List.Quantifiers.{position-Some}
use Rattle.std.proofs.lemmas.Slice.Eq.{bytes_eq-Decides}
use Rattle.io_edge.specs.FileHolding.{StaysKnown, KnownApart}
use Rattle.io_edge.specs.declared.Found.{Found}
use Rattle.io_edge.specs.declared.Found.TheVariants as found
use Rattle.system_edge.specs.declared.place.Place.{Place}
use Rattle.system_edge.specs.declared.place.Place.TheVariants.{Unsought, Missing, Plain, Held}
use Rattle.io_edge.specs.FileHolding.{NamedFile}
use Rattle.system_edge.specs.Named.{names_of, seen_told}
use Rattle.system_edge.specs.Places.{KeepsPlaces, known_at, known_in, known_under}

pub places_itself : {F : Type 0} (places : List (Place F)) → KeepsPlaces places places
places_itself places number found known = known

pub places_through : {F : Type 0} (a b c : List (Place F)) → KeepsPlaces a b → KeepsPlaces b c → KeepsPlaces a c
places_through a b c first then number found known = then number found (first number found known)

under_stays : {F : Type 0} (old new : List (Place F)) → KeepsPlaces old new → (number : Option ℕ) (found : Found) → known_under old number ≡ Some found
    → known_under new number ≡ Some found
under_stays old new keeps None found known = cc
under_stays old new keeps (Some number) found known = keeps number found known

pub places_stay : {F : Type 0} (names : List (List ℕ)) (old new : List (Place F)) → KeepsPlaces old new → StaysKnown (known_in names old) (known_in names new)
places_stay names old new keeps name found known = under_stays old new keeps (position (λ other. bytes_eq other name) names) found known

-- the number under which a file is known is that of its place
pub number_is : {F : Type 0} (place : Place F) (number id len : ℕ) → known_at number place ≡ Some (found.Is id len) → number ≡ id
number_is Unsought number id len known = cc
number_is Missing number id len known = cc
number_is (Plain file facts) number id len known = cc
number_is (Held bytes) number id len known = cc

place_is : {F : Type 0} (places : List (Place F)) (number : Option ℕ) (id len : ℕ) → known_under places number ≡ Some (found.Is id len) → number ≡ Some id
place_is places None id len known = cc
place_is places (Some number) id len known = ap Some (number_is (get_or places number Unsought) number id len known)

-- the name at the first place of a name
pub name_at : (names : List (List ℕ)) (name : List ℕ) (number : ℕ) → position (λ other. bytes_eq other name) names ≡ Some number
    → (number < length names) × (get_or names number [] ≡ name)
name_at names name number stands =
    let found = position-Some (λ (other : List ℕ). bytes_eq other name) names number [] stands in
    (found.0, (bytes_eq-Decides (get_or names number []) name).0 found.1)

pub places_apart : {F : Type 0} (names : List (List ℕ)) (places : List (Place F)) → KnownApart (known_in names places)
places_apart names places one two id len long first second =
    sym (name_at names one id (place_is places (position (λ other. bytes_eq other one) names) id len first)).1
    ∙ (name_at names two id (place_is places (position (λ other. bytes_eq other two) names) id long second)).1

-- one system and the same words see the same files
pub led_same : {S : Type 0} (folder : S → Option (List NamedFile)) (a b : Bor S) (words_a words_b : Bor (List (Bor (List ℕ)))) → b ≡ a → words_b ≡ words_a
    → seen_told (folder b.now) (names_of (map (λ word. word.now) words_b.now)) ≡ seen_told (folder a.now) (names_of (map (λ word. word.now) words_a.now))
led_same folder a b words_a words_b system words =
    ap (λ (s : Bor _). seen_told (folder s.now) (names_of (map (λ word. word.now) words_b.now))) system
    ∙ ap (λ (w : Bor (List (Bor (List ℕ)))). seen_told (folder a.now) (names_of (map (λ word. word.now) w.now))) words

-- and what is known of names stays
pub led_stays : {F : Type 0} (words_a words_b : Bor (List (Bor (List ℕ)))) (old new : List (Place F)) → words_b ≡ words_a → KeepsPlaces old new
    → StaysKnown (known_in (names_of (map (λ word. word.now) words_a.now)) old) (known_in (names_of (map (λ word. word.now) words_b.now)) new)
led_stays words_a words_b old new same keeps =
    subst (λ (w : Bor (List (Bor (List ℕ)))). StaysKnown (known_in (names_of (map (λ word. word.now) words_a.now)) old)
    (known_in (names_of (map (λ word. word.now) w.now)) new)) (sym same)
    (places_stay (names_of (map (λ word. word.now) words_a.now)) old new keeps)
