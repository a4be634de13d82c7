-- The names of images that were read.
use Rattle.std.proofs.Common.{◌≡◌, ℕ, ◌+◌, ◌<◌, List, [], ◌∷◌, ◌++◌, length, map, take, get_or, Bor, sym, ap, ◌∙◌}
use Rattle.std.proofs.lemmas.List.{map-append, take_more}
use Rattle.replay_check.specs.Images.{FlatFile}

-- the names so far, and one more
pub names_more : (names : List (Bor (List ℕ))) (images images' : List FlatFile) (image : FlatFile) (i : ℕ) (d : Bor (List ℕ)) → i < length names
    → image.name ≡ (get_or names i d).now
    → images' ≡ images ++ image ∷ [] → map (λ (x : FlatFile). x.name) images ≡ map (λ (name : Bor (List ℕ)). name.now) (take i names)
    → map (λ (x : FlatFile). x.name) images' ≡ map (λ (name : Bor (List ℕ)). name.now) (take (i + 1) names)
names_more names images images' image i d below is pushed so_far =
    let now : Bor (List ℕ) → List ℕ = λ (name : Bor (List ℕ)). name.now in
    ap (map (λ (x : FlatFile). x.name)) pushed ∙ map-append (λ (x : FlatFile). x.name) images (image ∷ [])
    ∙ ap (λ (xs : List (List ℕ)). xs ++ image.name ∷ []) so_far ∙ ap (λ (x : List ℕ). map now (take i names) ++ x ∷ []) is
    ∙ sym (ap (map now) (take_more names i d below) ∙ map-append now (take i names) (get_or names i d ∷ []))
