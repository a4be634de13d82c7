-- A replay has the images that a run has of the same names.
use Rattle.std.proofs.Common.{◌≡◌, ℕ, ◌≤◌, List, [], ◌∷◌, ◌++◌, take, Option, Some, None, Result, Ok, Err, refl, sym, ap, ◌∙◌, subst, arith}
use Rattle.io_edge.specs.FileHolding.{NamedFile, place_of, bytes_at}
use Rattle.aout_image.specs.Image.{Loaded, judged_image, file_length_of}
use Rattle.aout_image.proofs.Images.{image_of-take}
use Rattle.flat_state.specs.Flat.{NamedImage}
use Rattle.replay_check.specs.Images.{FlatFile, named_as, images_of}
use Rattle.command_edge.specs.Told.{image_in, image_told_at, image_told}
use Rattle.command_edge.specs.Named.{Why, before}
use Rattle.replay_command.specs.Reading.{flat_in, images_told}
use Rattle.run_opening.specs.Images.{named_image, image_found_at, image_found, images_found}

judged : (name bytes : List ℕ) (image : NamedImage) (r : Result Loaded ℕ) → judged_image bytes ≡ r → named_image name r ≡ Ok image
    → (file : FlatFile) × (flat_in name (image_in bytes r) ≡ Ok file) × (named_as file.name (judged_image file.bytes) ≡ image ∷ [])
judged name bytes image (Err reason) e h = absurd cc
judged name bytes image (Ok loaded) e h =
    let whole : judged_image (take (file_length_of loaded.facts) bytes) ≡ Ok loaded = image_of-take bytes (file_length_of loaded.facts) loaded e (omega arith) in
    let same : (let n : NamedImage = record { name = name; image = loaded } in n) ≡ image = cc in
    (record { name = name; bytes = take (file_length_of loaded.facts) bytes }, refl, ap (named_as name) whole ∙ ap (λ (n : NamedImage). n ∷ []) same)

found_at : (files : List NamedFile) (name : List ℕ) (image : NamedImage) (o : Option ℕ) → image_found_at files name o ≡ Ok image
    → (file : FlatFile) × (flat_in name (image_told_at files o) ≡ Ok file) × (named_as file.name (judged_image file.bytes) ≡ image ∷ [])
found_at files name image None h = absurd cc
found_at files name image (Some place) h = judged name (bytes_at files place) image (judged_image (bytes_at files place)) refl h

both : (files : List NamedFile) (name : List ℕ) (names : List (List ℕ)) (images : List NamedImage) (r : Result NamedImage Why)
    (rs : Result (List NamedImage) Why)
    → image_found files name ≡ r → images_found files names ≡ rs → before r rs ≡ Ok images
    → ((more : List NamedImage) → images_found files names ≡ Ok more → (read : List FlatFile) × (images_told files names ≡ Ok read) × (more ≡ images_of read))
    → (read : List FlatFile) × (images_told files (name ∷ names) ≡ Ok read) × (images ≡ images_of read)
both files name names images (Err why) rs e es h rest = absurd cc
both files name names images (Ok image) (Err why) e es h rest = absurd cc
both files name names images (Ok image) (Ok more) e es h rest =
    let one = found_at files name image (place_of files name) e in
    let others = rest more es in
    let all : image ∷ more ≡ images = cc in (
      one.0 ∷ others.0,
      ap (λ (r : Result FlatFile Why). before r (images_told files names)) one.1 ∙ ap (λ (rs : Result (List FlatFile) Why). before (Ok one.0) rs) others.1,
      sym all ∙ ap (λ (ns : List NamedImage). image ∷ ns) others.2 ∙ ap (λ (ns : List NamedImage). ns ++ images_of others.0) (sym one.2),
    )

pub same_images : (files : List NamedFile) (names : List (List ℕ)) (images : List NamedImage) → images_found files names ≡ Ok images
    → (read : List FlatFile) × (images_told files names ≡ Ok read) × (images ≡ images_of read)
same_images files [] images h = ([], refl, (let e : [] ≡ images = cc in sym e))
same_images files (name ∷ names) images h = both files name names images (image_found files name) (images_found files names) refl refl h (same_images files names)
