-- What is learned of a name is put into its place, and every place still fits its name.
use Rattle.std.specs.Prelude.{◌≡◌, ◌⊎◌, ℕ, List, [], ◌∷◌, ◌++◌, length, position, bytes_eq, get_or, Result, OnOk, OnErr, Ok, Err, Option, Some, None}
use Rattle.std.proofs.Common.{sym, subst, inl, inr, arith}
use Rattle.std.proofs.lemmas.Bool.{cases_eq}
use Rattle.std.proofs.lemmas.Grind.{common_steps}
use Rattle.io_edge.specs.FileHolding.{NamedFile, IsKnown, CountsFind}
use Rattle.io_edge.specs.declared.Found.{Found}
use Rattle.io_edge.specs.declared.Found.TheVariants as found
use Rattle.system_calls.specs.declared.system.SystemFile.{Ghosts as FileGhosts}
use Rattle.system_edge.specs.declared.place.Place.{Place}
use Rattle.system_edge.specs.declared.place.Place.TheVariants.{Unsought, Missing, Plain, Held}
use Rattle.system_edge.specs.Places.{FitsName, FitNames, IsAnswered, IsPut, KeepsPlaces, SamePlaces, known_at, known_in, known_under}
use Rattle.system_edge.specs.PlaceLaws.{name_at}

-- a fact that follows holds where the call went well
pub ok_then : {X Y : Type 0} (result : Result X Y) {P Q : Type 0} → (P → Q) → OnOk result P → OnOk result Q
ok_then (Ok x) follows fact = follows fact
ok_then (Err e) follows fact = tt

-- what is known in the place of a name is known of the name
pub known_named : {F : Type 0} (names : List (List ℕ)) (places : List (Place F)) (name : List ℕ) (number : ℕ) (answer : Found)
    → position (λ other. bytes_eq other name) names ≡ Some number → known_at number (get_or places number Unsought) ≡ Some answer
    → IsKnown (known_in names places) name answer
known_named names places name number (found.Is id len) stands there =
    subst (λ (at : Option ℕ). known_under places at ≡ Some (found.Is id len)) (sym stands) there
known_named names places name number found.Absent stands there = subst (λ (at : Option ℕ). known_under places at ≡ Some found.Absent) (sym stands) there
known_named names places name number found.Failed stands there = tt

-- what is known is an answer
pub known_answered : {F : Type 0} (number : ℕ) (place : Place F) (answer : Found) → known_at number place ≡ Some answer → IsAnswered answer
known_answered number place (found.Is id len) known = tt
known_answered number place found.Absent known = tt
known_answered number Unsought found.Failed known = cc
known_answered number Missing found.Failed known = cc
known_answered number (Plain file facts) found.Failed known = cc
known_answered number (Held bytes) found.Failed known = cc

-- no count rises at an answer
pub answer_counts : (answer : Found) (old new : ℕ) → IsAnswered answer → new ≡ old → CountsFind answer old new
answer_counts (found.Is id len) old new answered same = same
answer_counts found.Absent old new answered same = same
answer_counts found.Failed old new answered same = absurd answered

-- what stands in the place of a name fits it
pub fits_there : {F : Type 0} (g : FileGhosts F) (folder : Option (List NamedFile)) (names : List (List ℕ)) (places : List (Place F)) (name : List ℕ)
    (number : ℕ) → FitNames g folder names places → position (λ other. bytes_eq other name) names ≡ Some number
    → FitsName g folder name (get_or places number Unsought)
fits_there g folder names places name number fits stands =
    subst (λ (sought : List ℕ). FitsName g folder sought (get_or places number Unsought)) (name_at names name number stands).1 (fits number)

-- places that are as they were fit as they did
pub fits_same : {F : Type 0} (g : FileGhosts F) (folder : Option (List NamedFile)) (names : List (List ℕ)) (old new : List (Place F))
    → FitNames g folder names old → SamePlaces old new → FitNames g folder names new
fits_same g folder names old new fits same i =
    subst (λ (there : Place _). FitsName g folder (get_or names i []) there) (sym (same i)) (fits i)

-- a place that fits its name was put there
pub fits_put : {F : Type 0} (g : FileGhosts F) (folder : Option (List NamedFile)) (names : List (List ℕ)) (old new : List (Place F)) (name : List ℕ)
    (number : ℕ) (place : Place F) → FitNames g folder names old → position (λ other. bytes_eq other name) names ≡ Some number
    → FitsName g folder name place → IsPut old number place new → FitNames g folder names new
fits_put g folder names old new name number place fits stands fit put i = go (cases_eq i number) where
  go : (i ≡ number) ⊎ (i ≡ number → ⊥) → FitsName g folder (get_or names i []) (get_or new i Unsought)
  go (inl same) =
      subst (λ (k : ℕ). FitsName g folder (get_or names k []) (get_or new k Unsought)) (sym same)
      (subst (λ (there : Place _). FitsName g folder (get_or names number []) there) (sym put.0)
      (subst (λ (sought : List ℕ). FitsName g folder sought place) (sym (name_at names name number stands).1) fit))
  go (inr other) = subst (λ (there : Place _). FitsName g folder (get_or names i []) there) (sym (put.1 i other)) (fits i)

-- what was known stays where a place is filled of which nothing was known
pub put_keeps : {F : Type 0} (old new : List (Place F)) (number : ℕ) (place : Place F) → known_at number (get_or old number Unsought) ≡ None
    → IsPut old number place new → KeepsPlaces old new
put_keeps old new number place unknown put i answer known = go (cases_eq i number) where
  go : (i ≡ number) ⊎ (i ≡ number → ⊥) → known_at i (get_or new i Unsought) ≡ Some answer
  go (inl same) = (let none : known_at i (get_or old i Unsought) ≡ None =
      subst (λ (k : ℕ). known_at k (get_or old k Unsought) ≡ None) (sym same) unknown in absurd (cc (none, known)))
  go (inr other) = subst (λ (there : Place _). known_at i there ≡ Some answer) (sym (put.1 i other)) known

pub same_keeps : {F : Type 0} (old new : List (Place F)) → SamePlaces old new → KeepsPlaces old new
same_keeps old new same i answer known = subst (λ (there : Place _). known_at i there ≡ Some answer) (sym (same i)) known

-- a place at which nothing is known, behind the last
pub pushed_same : {F : Type 0} (places : List (Place F)) → SamePlaces places (places ++ Unsought ∷ [])
pushed_same places i = go (cases_eq i (length places)) where
  go : (i ≡ length places) ⊎ (i ≡ length places → ⊥) → get_or (places ++ Unsought ∷ []) i Unsought ≡ get_or places i Unsought
  go (inl same) = grind (arith, common_steps)
  go (inr other) = grind (arith, common_steps)

-- the places after a place was put, or memory lacked for it
pub either_fits : {X Y F : Type 0} (result : Result X Y) (g : FileGhosts F) (folder : Option (List NamedFile)) (names : List (List ℕ)) (old new : List (Place F))
    (name : List ℕ) (number : ℕ) (place : Place F) → FitNames g folder names old → position (λ other. bytes_eq other name) names ≡ Some number
    → FitsName g folder name place → OnOk result (IsPut old number place new) → OnErr result (SamePlaces old new) → FitNames g folder names new
either_fits (Ok x) g folder names old new name number place fits stands fit put same = fits_put g folder names old new name number place fits stands fit put
either_fits (Err e) g folder names old new name number place fits stands fit put same = fits_same g folder names old new fits same
