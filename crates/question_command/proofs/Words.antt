-- The names in words of images.
use Rattle.std.proofs.Common.{◌≡◌, ℕ, List, map, Bor, sym, subst}
use Rattle.std.specs.Prelude.{All}
use Rattle.std.proofs.lemmas.List.Elements.{All-map}
use Rattle.command_edge.specs.ImageWords.{IsShortName, name_in, image_names}
use Rattle.run_opening.proofs.Lists.{All-of_map, All-image_names}

abbrev now_of : List (Bor (List ℕ)) → List (List ℕ)
now_of words = map (λ (word : Bor (List ℕ)). word.now) words

-- names of short words are short
pub short_names : (names words : List (Bor (List ℕ))) → now_of names ≡ image_names (now_of words)
    → All (λ (word : Bor (List ℕ)). IsShortName (name_in word.now)) words
    → All (λ (name : Bor (List ℕ)). IsShortName name.now) names
short_names names words are each =
    All-of_map IsShortName (λ (name : Bor (List ℕ)). name.now) names
    (subst (All IsShortName) (sym are) (All-image_names IsShortName (now_of words) (All-map (λ (word : List ℕ). IsShortName (name_in word)) (λ (word : Bor (List ℕ)). word.now) words each)))
